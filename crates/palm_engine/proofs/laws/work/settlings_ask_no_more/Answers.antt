use Rattle.palm_engine.proofs.Working.{settling_paid}
use Rattle.palm_engine.proofs.laws.work.settlings_ask_no_more.Goals as goal

pub returns : goal.returns
returns c = λ limit s t rs valid settles. settling_paid limit s rs t valid.rising settles
