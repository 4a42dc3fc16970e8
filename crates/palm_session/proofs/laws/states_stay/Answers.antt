use Rattle.palm_session.proofs.cited.LawsOfAnswers.{answers_keep}
use Rattle.palm_session.proofs.laws.states_stay.Goals as goal

pub returns : goal.returns
returns c = answers_keep
