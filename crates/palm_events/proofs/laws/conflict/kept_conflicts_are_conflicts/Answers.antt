use Rattle.palm_events.proofs.cited.Conflicts.{kept_conflict}
use Rattle.palm_events.proofs.laws.conflict.kept_conflicts_are_conflicts.Goals as goal

pub returns : goal.returns
returns c = λ s x valid empty. kept_conflict s valid x empty
