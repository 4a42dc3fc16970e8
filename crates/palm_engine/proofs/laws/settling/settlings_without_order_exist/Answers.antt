use Rattle.palm_engine.proofs.cited.Settled.{plainly_exists}
use Rattle.palm_engine.proofs.laws.settling.settlings_without_order_exist.Goals as goal

pub returns : goal.returns
returns c = λ limit s valid. plainly_exists limit s valid
