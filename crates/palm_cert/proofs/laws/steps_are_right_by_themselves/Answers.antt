use Rattle.palm_cert.proofs.cited.Needed.{steps_founded}
use Rattle.palm_cert.proofs.laws.steps_are_right_by_themselves.Goals as goal

pub returns : goal.returns
returns c = steps_founded
