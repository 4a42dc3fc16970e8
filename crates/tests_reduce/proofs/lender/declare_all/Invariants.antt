use Rattle.std.proofs.Common.{◌≡◌, [], length}
use Rattle.tests_reduce.proofs.lender.declare_all.Given as goal

abbrev pub invariant-loop-var : goal.invariant-loop-var
invariant-loop-var l = (length l.engine.state.initial ≡ l.var) × (l.engine.state.active ≡ [])
