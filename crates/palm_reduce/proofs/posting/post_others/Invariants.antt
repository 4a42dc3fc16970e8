use Rattle.palm_reduce.specs.Marked.{marked}
use Rattle.palm_reduce.proofs.Filling.{HasFirst}
use Rattle.palm_reduce.proofs.posting.post_others.Given as goal

abbrev pub invariant-loop-place : goal.invariant-loop-place
invariant-loop-place l = HasFirst (marked l.book l.marks) l.cids l.place l.engine.state
