use Rattle.std.proofs.Common.{◌≡◌, ◌-◌, ◌≤◌, ℕ, length, take}
use Rattle.palm_explain.specs.Entries.{written}
use Rattle.palm_explain.specs.Rows.{WereRemoved}
use Rattle.palm_explain.proofs.spans.spans_of.Given as goal

-- the reasons so far are put into spans
abbrev pub invariant-loop-start : goal.invariant-loop-start
invariant-loop-start l = record {
  within : l.start ≤ length l.reasons;
  spans : (n : ℕ) → WereRemoved l.rows n l.reasons → written l.rows n l.spans.items ≡ take l.start l.reasons;
}

abbrev pub decreases-loop-start : goal.decreases-loop-start
decreases-loop-start l = length l.reasons - l.start
