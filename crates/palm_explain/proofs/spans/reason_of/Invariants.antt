use Rattle.std.proofs.Common.{◌≡◌, ◌+◌, length, slice_get}
use Rattle.palm_explain.specs.Rows.{rest_in, span_in}
use Rattle.palm_explain.proofs.spans.reason_of.Given as goal

-- what is sought stands so many values on
abbrev pub invariant-loop-next : goal.invariant-loop-next
invariant-loop-next l = record {
  behind : l.index + length (rest_in l.row l.number l.span.high l.place) ≡ length (span_in l.row l.number l.span.low l.span.high) + l.left;
  at : slice_get (span_in l.row l.number l.span.low l.span.high) l.index ≡ slice_get (rest_in l.row l.number l.span.high l.place) l.left;
}

abbrev pub decreases-loop-next : goal.decreases-loop-next
decreases-loop-next l = length (rest_in l.row l.number l.span.high l.place)
