use Rattle.palm_events.proofs.cited.Reasons.{reasons_right}
use Rattle.palm_best.proofs.Bounding.{best_bounded}
use Rattle.palm_best.proofs.laws.minimizations_are_bounded.Goals as goal

pub returns : goal.returns
returns c = λ guided ordered target budget s t turns best none valid minimizes.
    best_bounded reasons_right guided ordered target budget s turns minimizes.last valid none minimizes.run.moved
