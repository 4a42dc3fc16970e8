use Rattle.palm_explain.proofs.Marking.{AreBareBelow}
use Rattle.palm_explain.proofs.naming.unmark_each.Given as goal

abbrev pub invariant-loop-place : goal.invariant-loop-place
invariant-loop-place l = AreBareBelow l.fn.log.items l.log.items l.place
