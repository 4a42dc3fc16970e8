use Rattle.std.proofs.Common.{◌≡◌, take}
use Rattle.proof_text.specs.Draft.{users_of}
use Rattle.proof_check.specs.Marks.{marked_in}
use Rattle.proof_check.proofs.users.marked_users.Given as goal

abbrev pub invariant-loop-place : goal.invariant-loop-place
invariant-loop-place l = l.users ≡ users_of (marked_in l.marks (take l.place l.book.constraints))
