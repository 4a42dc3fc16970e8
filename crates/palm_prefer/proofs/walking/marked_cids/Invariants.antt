use Rattle.std.proofs.Common.{◌≡◌, take}
use Rattle.palm_model.specs.Log.{cids_of}
use Rattle.palm_reduce.specs.Marked.{with_marks}
use Rattle.palm_reduce.specs.Walked.{actives}
use Rattle.palm_prefer.proofs.walking.marked_cids.Given as goal

abbrev pub invariant-loop-place : goal.invariant-loop-place
invariant-loop-place l = l.cids ≡ cids_of (actives (take l.place (with_marks l.book.constraints l.marks)))
