use Rattle.palm_events.proofs.cited.Reasons.{reasons_right}
use Rattle.palm_search.proofs.cited.Measuring.{run_bounded}
use Rattle.palm_search.proofs.laws.bound.searches_are_bounded.Goals as goal

pub returns : goal.returns
returns c = λ guided ordered budget s t turns end users valid searches. run_bounded reasons_right guided ordered budget s turns end searches.last valid users searches.run
