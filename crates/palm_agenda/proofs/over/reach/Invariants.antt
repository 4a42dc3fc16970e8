use Rattle.std.proofs.Common.{◌≡◌, ℕ, ◌-◌, ◌≤◌, length}
use Rattle.palm_agenda.specs.Cids.{row_at}
use Rattle.palm_agenda.proofs.over.reach.Given as goal

-- no list has changed
abbrev pub invariant-loop-over : goal.invariant-loop-over
invariant-loop-over l = record {
  rows : (x : ℕ) → row_at l.over.items x ≡ row_at l.initial.over.items x;
  longer : length l.initial.over.items ≤ length l.over.items;
}

abbrev pub decreases-loop-over : goal.decreases-loop-over
decreases-loop-over l = l.variables - length l.over.items
