use Rattle.palm_repair.proofs.Forcing.{posting_keeps}
use Rattle.palm_repair.proofs.laws.posting_keeps_repairing.Goals as goal

pub returns : goal.returns
returns c = λ s t posts repairing. posting_keeps s t posts repairing
