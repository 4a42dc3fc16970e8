use Rattle.std.proofs.Common.{◌≡◌, map, take}
use Rattle.palm_book.specs.declared.book.BookCon.{BookCon}
use Rattle.palm_reduce.proofs.reduce.active_marks.Given as goal

abbrev pub invariant-loop-place : goal.invariant-loop-place
invariant-loop-place l = l.marks.items ≡ map (λ (c : BookCon). c.active) (take l.place l.book.constraints)
