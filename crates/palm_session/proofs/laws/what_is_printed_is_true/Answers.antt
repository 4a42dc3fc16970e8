use Rattle.palm_session.proofs.cited.ToldLines.{all_told}
use Rattle.palm_session.proofs.laws.what_is_printed_is_true.Goals as goal

pub returns : goal.returns
returns c = λ guides orders text output replies. all_told guides orders replies.answered output replies.state replies.run
