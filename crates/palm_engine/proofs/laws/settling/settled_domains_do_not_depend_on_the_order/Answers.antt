use Rattle.palm_events.proofs.cited.Reasons.{reasons_right}
use Rattle.palm_engine.proofs.cited.Settled.{settled_same}
use Rattle.palm_engine.proofs.laws.settling.settled_domains_do_not_depend_on_the_order.Goals as goal

pub returns : goal.returns
returns c = λ s t u rs valid filters settled settles. settled_same reasons_right s t rs u valid filters settled settles
