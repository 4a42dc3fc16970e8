use Rattle.palm_prefer.proofs.cited.Keeping.{conflicts_hold}
use Rattle.palm_prefer.proofs.laws.conflicts_hold_the_one_left_out.Goals as goal

pub returns : goal.returns
returns c = conflicts_hold
