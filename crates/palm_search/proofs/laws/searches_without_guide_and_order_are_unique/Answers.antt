use Rattle.palm_events.proofs.cited.Reasons.{reasons_right}
use Rattle.palm_search.proofs.cited.Whole.{search_same}
use Rattle.palm_search.proofs.laws.searches_without_guide_and_order_are_unique.Goals as goal

pub returns : goal.returns
returns c = λ budget s t u turns others end other valid users one two. search_same reasons_right budget s turns end t others other u valid users one two
