use Rattle.palm_events.proofs.cited.Reasons.{reasons_right}
use Rattle.palm_engine.proofs.cited.Settled.{settling_valid}
use Rattle.palm_engine.proofs.laws.settling.settlings_keep_validity.Goals as goal

pub returns : goal.returns
returns c = λ limit s t rs settles valid. settling_valid reasons_right limit s rs t settles valid
