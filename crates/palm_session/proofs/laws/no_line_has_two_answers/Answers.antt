use Rattle.palm_session.proofs.cited.LawsOfAnswers.{answers_once}
use Rattle.palm_session.proofs.laws.no_line_has_two_answers.Goals as goal

pub returns : goal.returns
returns c = answers_once
