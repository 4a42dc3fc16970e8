use Rattle.palm_events.proofs.cited.Reasons.{reasons_right}
use Rattle.palm_engine.proofs.cited.Settled.{settling_undone}
use Rattle.palm_engine.proofs.laws.settling.settling_and_withdrawing_gives_back_the_log.Goals as goal

pub returns : goal.returns
returns c = λ limit s m n t a rs valid still posts settles withdraws. settling_undone reasons_right limit s m n t a rs valid still posts settles withdraws
