use Rattle.std.proofs.Common.{take}
use Rattle.palm_prefer.specs.Softs.{AreSofts}
use Rattle.palm_prefer.proofs.order.softs_of.Given as goal

abbrev pub invariant-loop-rank : goal.invariant-loop-rank
invariant-loop-rank l = AreSofts l.book.constraints (take l.rank l.weights) l.softs.items
