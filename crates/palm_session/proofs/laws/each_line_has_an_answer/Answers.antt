use Rattle.palm_session.proofs.cited.LawsOfAnswers.{has_answer}
use Rattle.palm_session.proofs.laws.each_line_has_an_answer.Goals as goal

pub returns : goal.returns
returns c = has_answer
