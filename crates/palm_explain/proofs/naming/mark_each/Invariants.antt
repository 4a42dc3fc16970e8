use Rattle.palm_explain.proofs.Marking.{IsMarkedBelow}
use Rattle.palm_explain.proofs.naming.mark_each.Given as goal

abbrev pub invariant-loop-place : goal.invariant-loop-place
invariant-loop-place l = IsMarkedBelow l.rows l.cid l.fn.log.items 0 l.log.items l.place
