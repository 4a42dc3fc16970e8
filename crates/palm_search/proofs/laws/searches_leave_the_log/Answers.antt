use Rattle.palm_events.proofs.cited.Reasons.{reasons_right}
use Rattle.palm_search.proofs.cited.Leaving.{search_leaves}
use Rattle.palm_search.proofs.laws.searches_leave_the_log.Goals as goal

pub returns : goal.returns
returns c = λ guided ordered budget s t turns end users valid still searches. search_leaves reasons_right guided ordered budget s turns end t users valid still searches
