use Rattle.palm_events.proofs.cited.Reasons.{reasons_right}
use Rattle.palm_repair.proofs.cited.Ending.{repair_leaves}
use Rattle.palm_repair.proofs.laws.repairs_leave_the_log.Goals as goal

pub returns : goal.returns
returns c = λ guided ordered tabu budget dropped s t turns end users valid still repairs. repair_leaves reasons_right guided ordered tabu budget s turns end dropped t users valid still repairs
