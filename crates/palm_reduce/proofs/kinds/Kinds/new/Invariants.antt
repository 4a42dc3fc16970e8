use Rattle.std.proofs.Common.{◌≡◌, length}
use Rattle.palm_reduce.proofs.Keeping.{AreKeptBefore}
use Rattle.palm_reduce.proofs.kinds.Kinds.new.Given as goal

abbrev pub invariant-loop-place : goal.invariant-loop-place
invariant-loop-place l = (length l.kept.items ≡ l.place) × AreKeptBefore l.book.constraints l.marks l.place l.kept.items
