use Rattle.std.proofs.Common.{◌≡◌, take}
use Rattle.palm_model.specs.Linear.{term_vars}
use Rattle.filter_linear.proofs.linear.variables_of.Given as goal

-- the variables so far
abbrev pub invariant-loop-term : goal.invariant-loop-term
invariant-loop-term l = l.vars ≡ term_vars (take l.term-index l.term-items)
