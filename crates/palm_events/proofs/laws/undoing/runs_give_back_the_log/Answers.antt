use Rattle.palm_events.proofs.cited.Reasons.{reasons_right}
use Rattle.palm_events.proofs.cited.Undone.{run_undone}
use Rattle.palm_events.proofs.laws.undoing.runs_give_back_the_log.Goals as goal

pub returns : goal.returns
returns c = λ s t steps valid still run keeps alone. run_undone reasons_right s steps t valid still run keeps alone
