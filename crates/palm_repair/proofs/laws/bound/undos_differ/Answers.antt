use Rattle.palm_events.proofs.cited.Reasons.{reasons_right}
use Rattle.palm_repair.proofs.cited.Counting.{undos_apart}
use Rattle.palm_repair.proofs.laws.bound.undos_differ.Goals as goal

pub returns : goal.returns
returns c = λ guided ordered tabu s t gone conflict turns at run same. undos_apart reasons_right guided ordered tabu s gone conflict turns t at run same
