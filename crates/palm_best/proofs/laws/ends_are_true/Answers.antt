use Rattle.palm_events.proofs.cited.Reasons.{reasons_right}
use Rattle.palm_best.proofs.cited.Ending.{best_true}
use Rattle.palm_best.proofs.laws.ends_are_true.Goals as goal

pub returns : goal.returns
returns c = λ guided ordered target budget s t turns best none valid minimizes.
    best_true reasons_right guided ordered target budget s turns best minimizes.last none valid minimizes.run
