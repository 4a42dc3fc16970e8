use Rattle.std.proofs.Common.{◌⊎◌, ℤ, length, Contains}
use Rattle.palm_domain.specs.Rows.{IsPresent}
use Rattle.palm_explain.specs.Rows.{rest_in, span_in}
use Rattle.palm_explain.proofs.losing.has_present.Given as goal

-- none that was passed is present
abbrev pub invariant-loop-next : goal.invariant-loop-next
invariant-loop-next l = record {
  rest : (v : ℤ) → Contains (rest_in l.row l.number l.span.high l.place) v → Contains (span_in l.row l.number l.span.low l.span.high) v;
  passed : (v : ℤ) → Contains (span_in l.row l.number l.span.low l.span.high) v → Contains (rest_in l.row l.number l.span.high l.place) v ⊎ (IsPresent l.store l.span.var v → ⊥);
}

abbrev pub decreases-loop-next : goal.decreases-loop-next
decreases-loop-next l = length (rest_in l.row l.number l.span.high l.place)
