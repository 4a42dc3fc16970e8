use Rattle.palm_session.proofs.cited.LawsOfStates.{fresh_is}
use Rattle.palm_session.proofs.laws.fresh_states_are_states.Goals as goal

pub returns : goal.returns
returns c = fresh_is
