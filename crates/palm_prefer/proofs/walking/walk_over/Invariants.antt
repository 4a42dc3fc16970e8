use Rattle.std.proofs.Common.{◌≡◌, ◌≤◌, ◌<◌, ℕ, false, take, length, slice_index_or}
use Rattle.palm_book.specs.Book.{active_of}
use Rattle.palm_reduce.specs.Marked.{marked}
use Rattle.palm_prefer.specs.Walked.{FitsBook, HasWalked, cons_at}
use Rattle.palm_prefer.specs.declared.order.Soft.{Soft}
use Rattle.palm_prefer.proofs.walking.walk_over.Given as goal

-- what is walked so far, and that the later ones are unmarked
abbrev pub invariant-loop-rank : goal.invariant-loop-rank
invariant-loop-rank g l = FitsBook l.book l.kinds l.walk
    × HasWalked l.book (active_of (marked l.book l.fn.marks.items)) (cons_at l.book.constraints (take l.rank l.order)) l.walk
    × ((k : ℕ) (d : Soft) → l.rank ≤ k → k < length l.order → slice_index_or l.walk.marks.items (slice_index_or l.order k d).place false ≡ false)
