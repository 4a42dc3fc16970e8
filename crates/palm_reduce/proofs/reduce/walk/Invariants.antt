use Rattle.std.proofs.Common.{◌≤◌, length}
use Rattle.palm_reduce.specs.Marked.{marked}
use Rattle.palm_reduce.specs.Walked.{HasWalked}
use Rattle.palm_reduce.proofs.reduce.walk.Given as goal

abbrev pub invariant-loop-place : goal.invariant-loop-place
invariant-loop-place g l = (l.place ≤ length l.book.constraints) × HasWalked l.property (marked l.book l.marks) l.place l.found l.engine.state

abbrev pub decreases-loop-place : goal.decreases-loop-place
decreases-loop-place g l = l.place
