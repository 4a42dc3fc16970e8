use Rattle.std.proofs.Common.{length}
use Rattle.palm_domain.specs.Rows.{initial_of}
use Rattle.palm_model.specs.Domains.{values_of}
use Rattle.palm_engine.specs.Advancing.{values_below}
use Rattle.palm_engine.specs.Posted.{active_of}
use Rattle.palm_engine.proofs.Convex.{Sunk}
use Rattle.palm_engine.proofs.between.last_supported.Given as goal

abbrev pub invariant-loop-var : goal.invariant-loop-var
invariant-loop-var g l = Sunk (active_of g.F.Filter.meaning l.constraint) l.var l.known l.value l.fn.filtering l.filtering l.fn.steps l.steps

abbrev pub decreases-loop-var : goal.decreases-loop-var
decreases-loop-var g l = length (values_below l.value (values_of (initial_of l.fn.filtering.store) l.var))
