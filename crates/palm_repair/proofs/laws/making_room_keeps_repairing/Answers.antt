use Rattle.palm_repair.proofs.Repairing.{room_keeps}
use Rattle.palm_repair.proofs.laws.making_room_keeps_repairing.Goals as goal

pub returns : goal.returns
returns c = λ tabu s t room repairing. room_keeps tabu s t room repairing
