use Rattle.std.proofs.Common.{◌<◌, length}
use Rattle.std.specs.List.{AllWithin}
use Rattle.tests_search.proofs.problems.are_variables.Given as goal

-- the variables so far are declared
abbrev pub invariant-loop-var : goal.invariant-loop-var
invariant-loop-var g l = AllWithin (λ x. x < length l.engine.state.initial) l.vars 0 l.var-index
