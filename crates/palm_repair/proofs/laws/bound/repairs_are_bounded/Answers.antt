use Rattle.palm_events.proofs.cited.Reasons.{reasons_right}
use Rattle.palm_repair.proofs.cited.Counting.{repair_run_bounded}
use Rattle.palm_repair.proofs.laws.bound.repairs_are_bounded.Goals as goal

pub returns : goal.returns
returns c = λ guided ordered tabu budget dropped s t turns end users valid repairs none. repair_run_bounded reasons_right guided ordered tabu budget s turns end dropped repairs.last valid users repairs.run none
