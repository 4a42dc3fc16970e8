use Rattle.std.proofs.Common.{ℕ, ◌<◌, slice_index_or}
use Rattle.palm_book.specs.Book.{HasNumber}
use Rattle.palm_prefer.specs.declared.weights.Weight.{Weight}
use Rattle.tests_reduce.proofs.weighing.are_present.Given as goal

abbrev pub invariant-loop-rank : goal.invariant-loop-rank
invariant-loop-rank l = (k : ℕ) (d : Weight) → k < l.rank → HasNumber l.book (slice_index_or l.weights k d).number
