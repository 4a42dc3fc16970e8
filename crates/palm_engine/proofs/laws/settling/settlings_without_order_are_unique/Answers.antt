use Rattle.palm_engine.proofs.cited.Settled.{plainly_same}
use Rattle.palm_engine.proofs.laws.settling.settlings_without_order_are_unique.Goals as goal

pub returns : goal.returns
returns c = λ limit s t u qs rs valid fq fr one other. plainly_same limit s qs t rs u valid fq fr one other
