use Rattle.palm_prefer.proofs.cited.Keeping.{kept_free}
use Rattle.palm_prefer.proofs.laws.kept_constraints_are_no_conflict.Goals as goal

pub returns : goal.returns
returns c = kept_free
