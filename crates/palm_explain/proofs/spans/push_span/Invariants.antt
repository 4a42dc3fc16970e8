use Rattle.std.proofs.Common.{◌≡◌, ◌++◌, length}
use Rattle.palm_explain.specs.Entries.{pairs_with}
use Rattle.palm_explain.specs.Rows.{rest_in, span_in}
use Rattle.palm_explain.proofs.spans.push_span.Given as goal

-- what is there and what is left are all
abbrev pub invariant-loop-next : goal.invariant-loop-next
invariant-loop-next l =
    l.out.items ++ pairs_with l.span.var (rest_in l.row l.number l.span.high l.place) ≡ l.fn.out.items ++ pairs_with l.span.var (span_in l.row l.number l.span.low l.span.high)

abbrev pub decreases-loop-next : goal.decreases-loop-next
decreases-loop-next l = length (rest_in l.row l.number l.span.high l.place)
