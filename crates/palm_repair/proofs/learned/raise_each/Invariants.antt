use Rattle.std.proofs.Common.{◌≡◌, take}
use Rattle.palm_repair.specs.Repair.{raised}
use Rattle.palm_repair.proofs.learned.raise_each.Given as goal

abbrev pub invariant-loop-var : goal.invariant-loop-var
invariant-loop-var l = l.weights.items ≡ raised l.fn.weights.items (take l.var-index l.vars)
