use Rattle.std.proofs.Common.{◌≡◌, map, take}
use Rattle.palm_model.proofs.parts.term_variables.Given as goal

-- the variables of the terms so far
abbrev pub invariant-loop-term : goal.invariant-loop-term
invariant-loop-term l = l.list ≡ map (λ t. t.var) (take l.term-index l.term-items)
