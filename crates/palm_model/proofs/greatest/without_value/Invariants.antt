use Rattle.std.proofs.Common.{◌≡◌, ◌++◌, take}
use Rattle.palm_model.proofs.greatest.without_value.Given as goal

-- the values before the index, and those after it so far
abbrev pub invariant-loop-value : goal.invariant-loop-value
invariant-loop-value l = l.list ≡ take l.index l.values ++ take l.value-index l.value-items
