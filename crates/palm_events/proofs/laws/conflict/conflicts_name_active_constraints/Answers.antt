use Rattle.palm_events.proofs.cited.Conflicts.{conflict_active}
use Rattle.palm_events.proofs.laws.conflict.conflicts_name_active_constraints.Goals as goal

pub returns : goal.returns
returns c = λ s x cid valid held. conflict_active s valid x cid held
