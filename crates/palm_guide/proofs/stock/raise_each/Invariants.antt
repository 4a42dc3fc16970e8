use Rattle.std.proofs.Common.{take}
use Rattle.palm_guide.specs.Picks.{Raises}
use Rattle.palm_guide.proofs.stock.raise_each.Given as goal

-- the variables so far are counted
abbrev pub invariant-loop-var : goal.invariant-loop-var
invariant-loop-var l = Raises l.initial.numbers.items (take l.var-index l.vars) l.numbers.items
