use Rattle.palm_repair.proofs.Repairing.{repair_begins}
use Rattle.palm_repair.proofs.laws.repairs_begin.Goals as goal

pub returns : goal.returns
returns c = λ s valid users. repair_begins s valid users
