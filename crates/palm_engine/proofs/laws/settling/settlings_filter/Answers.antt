use Rattle.palm_engine.proofs.cited.Settled.{settling_filters}
use Rattle.palm_engine.proofs.laws.settling.settlings_filter.Goals as goal

pub returns : goal.returns
returns c = λ limit s t rs settles. settling_filters limit s rs t settles
