use Rattle.palm_engine.proofs.cited.Settled.{settling_still}
use Rattle.palm_engine.proofs.laws.settling.settlings_without_limit_end_still.Goals as goal

pub returns : goal.returns
returns c = λ s t rs settles. settling_still s rs t settles
