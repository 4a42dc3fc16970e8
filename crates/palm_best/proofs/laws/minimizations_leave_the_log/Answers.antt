use Rattle.palm_events.proofs.cited.Reasons.{reasons_right}
use Rattle.palm_best.proofs.cited.Ending.{best_leaves}
use Rattle.palm_best.proofs.laws.minimizations_leave_the_log.Goals as goal

pub returns : goal.returns
returns c = λ guided ordered target budget s t turns best none valid still minimizes.
    best_leaves reasons_right guided ordered target budget s turns best t none valid still minimizes
