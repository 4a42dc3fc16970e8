use Rattle.std.proofs.Common.{All}
use Rattle.palm_model.specs.Constraint.{IsWellFormed}
use Rattle.tests_engine.proofs.samples.push_cons.Given as goal

abbrev pub invariant-loop-sample : goal.invariant-loop-sample
invariant-loop-sample l = All (IsWellFormed 4) l.list
