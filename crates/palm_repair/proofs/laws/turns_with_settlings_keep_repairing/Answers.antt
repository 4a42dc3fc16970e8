use Rattle.palm_events.proofs.cited.Reasons.{reasons_right}
use Rattle.palm_repair.proofs.Repairing.{repair_turns_keep}
use Rattle.palm_repair.proofs.laws.turns_with_settlings_keep_repairing.Goals as goal

pub returns : goal.returns
returns c = λ guided ordered tabu s t turns run repairing. repair_turns_keep reasons_right guided ordered tabu s turns t run repairing
