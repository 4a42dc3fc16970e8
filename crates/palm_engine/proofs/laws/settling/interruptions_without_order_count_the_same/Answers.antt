use Rattle.palm_engine.proofs.Cuts.{interrupted_count}
use Rattle.palm_engine.proofs.laws.settling.interruptions_without_order_count_the_same.Goals as goal

pub returns : goal.returns
returns c = λ limit before after other valid one another same. interrupted_count limit before after other valid one another same
