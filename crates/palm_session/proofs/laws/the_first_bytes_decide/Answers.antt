use Rattle.palm_session.proofs.cited.LawsOfAnswers.{first_bytes_decide}
use Rattle.palm_session.proofs.laws.the_first_bytes_decide.Goals as goal

pub returns : goal.returns
returns c = first_bytes_decide
