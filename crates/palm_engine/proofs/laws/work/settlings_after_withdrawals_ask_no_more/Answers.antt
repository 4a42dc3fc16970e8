use Rattle.palm_engine.proofs.cited.Restored.{settling_paid_back}
use Rattle.palm_engine.proofs.laws.work.settlings_after_withdrawals_ask_no_more.Goals as goal

pub returns : goal.returns
returns c = λ limit s m t cid rs valid quiet withdraws settles. settling_paid_back limit s m t cid rs valid quiet withdraws settles
