use Rattle.palm_events.proofs.cited.Reasons.{reasons_right}
use Rattle.palm_search.proofs.cited.Whole.{search_exists}
use Rattle.palm_search.proofs.laws.searches_exist.Goals as goal

pub returns : goal.returns
returns c = λ guided ordered f fits budget s valid users. search_exists reasons_right guided ordered f fits budget s valid users
