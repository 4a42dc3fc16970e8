use Rattle.palm_events.proofs.cited.Conflicts.{flat_justifiers}
use Rattle.palm_events.proofs.laws.conflict.flat_conflicts_hold_active_justifiers.Goals as goal

pub returns : goal.returns
returns c = λ s x cid valid held. flat_justifiers s valid x cid held
