use Rattle.palm_events.proofs.cited.Reasons.{reasons_right}
use Rattle.palm_best.proofs.cited.Ending.{best_rests}
use Rattle.palm_best.proofs.laws.minimizations_leave_the_constraints.Goals as goal

pub returns : goal.returns
returns c = λ guided ordered target budget s t turns best none valid minimizes.
    best_rests reasons_right guided ordered target budget s turns best t none valid minimizes
