use Rattle.palm_events.proofs.cited.Reasons.{reasons_right}
use Rattle.palm_repair.proofs.cited.Ending.{repair_rests}
use Rattle.palm_repair.proofs.laws.repairs_leave_the_constraints.Goals as goal

pub returns : goal.returns
returns c = λ guided ordered tabu budget dropped s t turns end users valid repairs. repair_rests reasons_right guided ordered tabu budget s turns end dropped t users valid repairs
