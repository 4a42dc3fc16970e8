use Rattle.std.proofs.Common.{◌≡◌, ◌+◌, ◌-◌, ◌≤◌, ◌<◌, ℕ, length}
use Rattle.palm_explain.specs.Rows.{IsNext}
use Rattle.palm_explain.proofs.spans.run_length.Given as goal

-- so many of the reasons stand side by side in the row
abbrev pub invariant-loop-var : goal.invariant-loop-var
invariant-loop-var l = record {
  some : 0 < l.count;
  within : l.start + l.count ≤ length l.reasons;
  place : l.place + 1 ≡ l.initial.place + l.count;
  run : (k : ℕ) → k < l.count → IsNext l.row l.fn.var l.reasons (l.start + k) (l.initial.place - 1 + k);
}

abbrev pub decreases-loop-var : goal.decreases-loop-var
decreases-loop-var l = length l.reasons - l.count
