use Rattle.palm_events.proofs.cited.Reasons.{reasons_right}
use Rattle.palm_repair.proofs.Repairing.{repair_settles_keep}
use Rattle.palm_repair.proofs.laws.settlings_keep_repairing.Goals as goal

pub returns : goal.returns
returns c = λ ordered s t settles repairing. repair_settles_keep reasons_right ordered s t settles repairing
