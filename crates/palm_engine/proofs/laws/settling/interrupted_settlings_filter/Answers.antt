use Rattle.palm_engine.proofs.cited.Settled.{interrupted_filters}
use Rattle.palm_engine.proofs.laws.settling.interrupted_settlings_filter.Goals as goal

pub returns : goal.returns
returns c = λ limit ordered before after cut. interrupted_filters ordered before after cut
