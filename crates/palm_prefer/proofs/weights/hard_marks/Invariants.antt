use Rattle.std.proofs.Common.{◌≡◌, map, take}
use Rattle.palm_prefer.specs.Preferred.{is_hard}
use Rattle.palm_prefer.proofs.weights.hard_marks.Given as goal

abbrev pub invariant-loop-rank : goal.invariant-loop-rank
invariant-loop-rank l = l.marks.items ≡ map (is_hard (take l.rank l.weights)) l.book.constraints
