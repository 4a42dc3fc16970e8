use Rattle.std.proofs.Common.{◌≡◌, ◌++◌, length}
use Rattle.palm_model.specs.Differ.{differ_parts}
use Rattle.palm_model.proofs.parts.push_differ.Given as goal

-- the pairs so far, and those of the variables that are left, are all pairs
abbrev pub invariant-loop-rest : goal.invariant-loop-rest
invariant-loop-rest l = l.list ++ differ_parts l.rest ≡ l.initial.list ++ differ_parts l.vars

abbrev pub decreases-loop-rest : goal.decreases-loop-rest
decreases-loop-rest l = length l.rest
