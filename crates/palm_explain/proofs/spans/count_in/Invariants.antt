use Rattle.std.proofs.Common.{◌≡◌, ◌+◌, length}
use Rattle.palm_explain.specs.Rows.{rest_in, span_in}
use Rattle.palm_explain.proofs.spans.count_in.Given as goal

-- what is counted and what is left are all
abbrev pub invariant-loop-next : goal.invariant-loop-next
invariant-loop-next l = record {
  counted : l.count + length (rest_in l.row l.number l.span.high l.place) ≡ length (span_in l.row l.number l.span.low l.span.high);
}

abbrev pub decreases-loop-next : goal.decreases-loop-next
decreases-loop-next l = length (rest_in l.row l.number l.span.high l.place)
