use Rattle.palm_events.proofs.cited.Reasons.{reasons_right}
use Rattle.palm_events.proofs.cited.Runs.{blank_run_valid}
use Rattle.palm_events.proofs.laws.validity.runs_are_valid.Goals as goal

pub returns : goal.returns
returns c = λ initial steps t ascend run. blank_run_valid reasons_right initial steps t ascend run
