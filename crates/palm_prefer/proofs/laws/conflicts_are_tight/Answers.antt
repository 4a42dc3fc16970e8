use Rattle.palm_prefer.proofs.cited.Keeping.{conflicts_tight}
use Rattle.palm_prefer.proofs.laws.conflicts_are_tight.Goals as goal

pub returns : goal.returns
returns c = conflicts_tight
