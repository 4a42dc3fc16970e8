use Rattle.palm_domain.specs.Rows.{present_of}
use Rattle.filter_linear.proofs.Walks.{IsEndTo}
use Rattle.filter_linear.proofs.end.End.of_sum.Given as goal

-- the end of what the terms so far can be together
abbrev pub invariant-loop-term : goal.invariant-loop-term
invariant-loop-term l = IsEndTo l.self (present_of l.store) l.terms l.pair.var l.pair.value l.term-index l.sum
