use Rattle.std.proofs.Common.{Contains}
use Rattle.palm_laws.proofs.cited.Growing.{conflict_more}
use Rattle.palm_laws.proofs.minimal.conflicts_grow.Goals as goal

pub returns : goal.returns
returns c = λ initial cs more sub conflict. conflict_more initial (Contains cs) (Contains more) sub conflict
