use Rattle.palm_events.proofs.cited.Reasons.{reasons_right}
use Rattle.palm_repair.proofs.cited.Counting.{repair_run_spent}
use Rattle.palm_repair.proofs.laws.bound.spent_budgets_are_small.Goals as goal

pub returns : goal.returns
returns c = λ guided ordered tabu budget spent dropped s t turns users valid repairs. repair_run_spent reasons_right guided ordered tabu budget spent s turns dropped repairs.last valid users repairs.run
