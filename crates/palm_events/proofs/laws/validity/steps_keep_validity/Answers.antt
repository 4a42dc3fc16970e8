use Rattle.palm_events.proofs.cited.Reasons.{reasons_right}
use Rattle.palm_events.proofs.cited.Runs.{step_valid}
use Rattle.palm_events.proofs.laws.validity.steps_keep_validity.Goals as goal

pub returns : goal.returns
returns c = λ s t step h valid. step_valid reasons_right s step t h valid
