use Rattle.palm_reason.proofs.cited.Reasons.{reason_right}
use Rattle.palm_reason.proofs.laws.reasons_are_right.Goals as goal

pub returns : goal.returns
returns c = reason_right
