use Rattle.palm_events.proofs.cited.Conflicts.{step_justified}
use Rattle.palm_events.proofs.laws.conflict.steps_keep_negations_justified.Goals as goal

pub returns : goal.returns
returns c = λ s t step h valid new justified. step_justified s step t h valid new justified
