use Rattle.palm_read.specs.declared.line.Line.TheVariants.{Quit}
use Rattle.palm_read.specs.declared.mode.Mode.TheVariants.{One}
use Rattle.palm_session.proofs.cited.LawsOfAnswers.{first_bytes_read}
use Rattle.palm_session.proofs.laws.the_first_bytes_end.Goals as goal

pub returns : goal.returns
returns c = λ line. first_bytes_read One line Quit
