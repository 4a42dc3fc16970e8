use Rattle.palm_engine.proofs.Ending.{settling_exists}
use Rattle.palm_engine.proofs.laws.settling.settlings_exist.Goals as goal

pub returns : goal.returns
returns c = λ limit f s valid. settling_exists limit f s valid
