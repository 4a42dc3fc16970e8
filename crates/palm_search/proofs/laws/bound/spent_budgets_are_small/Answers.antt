use Rattle.palm_events.proofs.cited.Reasons.{reasons_right}
use Rattle.palm_search.proofs.cited.Measuring.{run_spent}
use Rattle.palm_search.proofs.laws.bound.spent_budgets_are_small.Goals as goal

pub returns : goal.returns
returns c = λ guided ordered budget spent s t turns users valid searches. run_spent reasons_right guided ordered budget spent s turns searches.last valid users searches.run
