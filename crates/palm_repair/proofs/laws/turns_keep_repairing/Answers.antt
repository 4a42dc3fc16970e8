use Rattle.palm_repair.proofs.Repairing.{repair_takes_keep}
use Rattle.palm_repair.proofs.laws.turns_keep_repairing.Goals as goal

pub returns : goal.returns
returns c = λ guided tabu s t turn takes repairing. repair_takes_keep guided tabu s turn t takes repairing
