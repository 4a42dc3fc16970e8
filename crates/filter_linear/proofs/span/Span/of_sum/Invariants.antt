use Rattle.palm_domain.specs.Rows.{present_of}
use Rattle.filter_linear.proofs.Walks.{IsSpanTo}
use Rattle.filter_linear.proofs.span.Span.of_sum.Given as goal

-- what the terms so far can be together
abbrev pub invariant-loop-term : goal.invariant-loop-term
invariant-loop-term l = IsSpanTo (present_of l.store) l.terms l.pair.var l.pair.value l.term-index l.span
