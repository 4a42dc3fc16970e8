use Rattle.palm_cert.proofs.cited.Readable.{readable}
use Rattle.palm_cert.proofs.laws.lines_say_what_was_written.Goals as goal

pub returns : goal.returns
returns c = readable
