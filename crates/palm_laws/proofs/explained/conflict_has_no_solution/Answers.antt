use Rattle.std.proofs.Common.{Contains}
use Rattle.palm_laws.proofs.cited.Solutions.{conflict_no_solution}
use Rattle.palm_laws.proofs.explained.conflict_has_no_solution.Goals as goal

pub returns : goal.returns
returns c = λ initial cs a declared conflict solution. conflict_no_solution initial (Contains cs) a declared conflict solution
