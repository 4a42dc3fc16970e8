use Rattle.std.proofs.Common.{sym}
use Rattle.palm_read.specs.Token.{tokens_of}
use Rattle.palm_read.proofs.cited.LineForms.{form_takes}
use Rattle.palm_read.proofs.cited.Parsing.{comment_read, answered, formless, no_form_held}
use Rattle.palm_read.proofs.cited.PlainTokens.{form_plain}
use Rattle.palm_read.proofs.cited.SoundLines.{sound_answer}
use Rattle.palm_read.proofs.parse.parse_tokens.Goals as goal

pub returns-then-is_note-clause-read : goal.returns-then-is_note-clause-read
returns-then-is_note-clause-read c = comment_read c.args.mode c.args.bytes.now c.if-bytes-gt-MOST_LINE_BYTES.false (sym c.if-is_note.ensures)

pub returns-in-Ok-clause-read : goal.returns-in-Ok-clause-read
returns-in-Ok-clause-read c =
    let bytes = c.args.bytes.now in
    let held = rw c.requires at c.in-Ok.ensures in
    let plain = form_plain bytes held.form c.if-bytes-gt-MOST_LINE_BYTES.false (sym c.if-is_note.ensures) (form_takes (tokens_of bytes) held.form held.read) in
    answered c.args.mode bytes c.in-Ok.line plain held c.within_limits.result c.within_limits.ensures

pub returns-in-Ok-clause-sound : goal.returns-in-Ok-clause-sound
returns-in-Ok-clause-sound c = sound_answer c.args.mode c.args.bytes.now c.within_limits.result (returns-in-Ok-clause-read c)

pub returns-in-Err-Form-clause-read : goal.returns-in-Err-Form-clause-read
returns-in-Err-Form-clause-read c =
    let bytes = c.args.bytes.now in
    formless c.args.mode bytes c.without_form.result c.if-bytes-gt-MOST_LINE_BYTES.false (sym c.if-is_note.ensures) (no_form_held bytes c.in-Err-Form.field-0 c.in-Err-Form.field-0-is (rw c.requires at c.in-Err-Form.ensures))
    c.without_form.ensures.plain c.without_form.ensures.odd c.without_form.ensures.either
