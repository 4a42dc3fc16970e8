use Rattle.palm_claim.specs.Phrases.{phrase_of}
use Rattle.palm_read.specs.Token.{tokens_of}
use Rattle.palm_claim.proofs.cited.Saying.{long_says_nothing, refused_says_nothing}
use Rattle.text_check.proofs.Reading.{gives_none, line_read, phrase_read}
use Rattle.text_check.proofs.statements.read_statement.Goals as goal

pub returns-then-bytes-gt-MOST_LINE_BYTES-clause-says : goal.returns-then-bytes-gt-MOST_LINE_BYTES-clause-says
returns-then-bytes-gt-MOST_LINE_BYTES-clause-says g c =
    long_says_nothing g.B.Body.own.phrases g.met.B.Body.are_phrases c.args.bytes.now c.if-bytes-gt-MOST_LINE_BYTES.true

pub returns-in-Ok-clause-says : goal.returns-in-Ok-clause-says
returns-in-Ok-clause-says g c =
    phrase_read g.B.Body.own.phrases g.met.B.Body.are_phrases c.args.bytes.now c.in-Ok.phrase c.if-bytes-gt-MOST_LINE_BYTES.false c.in-Ok.ensures

pub returns-in-Ok-parse_line-clause-says : goal.returns-in-Ok-parse_line-clause-says
returns-in-Ok-parse_line-clause-says g c =
    line_read g.B.Body.own.phrases g.met.B.Body.are_phrases c.args.bytes.now c.in-Ok-parse_line.line c.of_line.result c.in-Ok-parse_line.ensures.read c.of_line.ensures.says

pub returns-in_default-clause-says : goal.returns-in_default-clause-says
returns-in_default-clause-says g c =
    let phrases = g.B.Body.own.phrases in
    let none = gives_none (λ phrase. phrase) (phrase_of phrases.phrase_at (tokens_of c.args.bytes.now)) c.in-Err-Form.field-0 c.in-Err-Form.field-0-is c.in-Err-Form.ensures in
    refused_says_nothing phrases g.met.B.Body.are_phrases c.args.bytes.now c.in-Err-parse_line.error c.in-Err-parse_line.ensures.read c.in_default.not-NoMemory none
