use Rattle.palm_read.proofs.cited.Parsing.{note_at_end, note_at}
use Rattle.palm_read.proofs.parse.is_note.Goals as goal

pub returns-in-None : goal.returns-in-None
returns-in-None c =
    note_at_end c.args.bytes.now c.count_blanks.result c.count_blanks.ensures.count c.in-None.ensures.lookup.0

pub returns-in-Some : goal.returns-in-Some
returns-in-Some c =
    note_at c.args.bytes.now c.count_blanks.result c.in-Some.byte.now c.count_blanks.ensures.count c.in-Some.ensures.lookup.0 c.in-Some.ensures.lookup.1
