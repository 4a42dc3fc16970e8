use Rattle.palm_model.specs.Trial.{IsClosedForAll}
use Rattle.palm_model.proofs.cited.Narrowing.{narrows_then}
use Rattle.palm_model.proofs.greatest.close.Goals as goal

pub loop-preserved : goal.loop-preserved
loop-preserved c =
    narrows_then (IsClosedForAll c.args.parts.now) c.args.domains.now c.loop.domains c.sweep.new.domains c.loop.invariant c.in_ok-sweep.ensures.step
