use Rattle.palm_events.proofs.cited.Valid.{blank_valid}
use Rattle.palm_events.proofs.laws.validity.states_without_constraints_are_valid.Goals as goal

pub returns : goal.returns
returns c = λ initial ascend. blank_valid initial ascend
