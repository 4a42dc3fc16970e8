use Rattle.palm_events.proofs.cited.Reasons.{reasons_right}
use Rattle.palm_repair.proofs.cited.Alone.{repair_same}
use Rattle.palm_repair.proofs.laws.repairs_without_guide_and_order_are_unique.Goals as goal

pub returns : goal.returns
returns c = λ tabu budget s t u turns others end other dropped lost valid users one two.
    repair_same reasons_right tabu budget s turns end dropped t others other lost u valid users one two
