use Rattle.std.proofs.Common.{take, Contains}
use Rattle.proof_check.specs.Marks.{MarksMore}
use Rattle.proof_check.proofs.marks.mark_all.Given as goal

abbrev pub invariant-loop-number : goal.invariant-loop-number
invariant-loop-number l = MarksMore l.initial.marks l.marks (Contains (take l.number-index l.numbers))
