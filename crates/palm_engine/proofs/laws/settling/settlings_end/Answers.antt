use Rattle.palm_engine.proofs.Ending.{revisions_bounded}
use Rattle.palm_engine.proofs.laws.settling.settlings_end.Goals as goal

pub returns : goal.returns
returns c = λ s t rs run. revisions_bounded s rs t run
