use Rattle.std.proofs.Common.{Contains}
use Rattle.palm_laws.proofs.cited.Solutions.{explained_no_solution}
use Rattle.palm_laws.proofs.explained.explained_value_is_in_no_solution.Goals as goal

pub returns : goal.returns
returns c = λ initial cs x v a declared lt explains solution e. explained_no_solution initial (Contains cs) x v a declared lt explains solution e
