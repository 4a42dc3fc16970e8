use Rattle.palm_events.proofs.cited.Conflicts.{flat_unsolved}
use Rattle.palm_events.proofs.laws.conflict.flat_conflicts_have_no_solution.Goals as goal

pub returns : goal.returns
returns c = λ s x a valid justified empty solution. flat_unsolved s valid justified x empty a solution
