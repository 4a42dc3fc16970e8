use Rattle.palm_events.proofs.cited.Reasons.{reasons_right}
use Rattle.palm_repair.proofs.cited.Existing.{repair_exists}
use Rattle.palm_repair.proofs.laws.repairs_exist.Goals as goal

pub returns : goal.returns
returns c = λ guided ordered tabu f fits budget s positive valid users. repair_exists reasons_right guided ordered tabu f fits budget s positive valid users
