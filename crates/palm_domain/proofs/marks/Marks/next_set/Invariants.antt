use Rattle.std.proofs.Common.{◌-◌, ◌≡◌, ℕ, ◌<◌, ◌≤◌, false}
use Rattle.palm_domain.specs.Marks.{is_marked}
use Rattle.palm_domain.proofs.marks.Marks.next_set.Given as goal

abbrev pub invariant-loop-at : goal.invariant-loop-at
invariant-loop-at l = record { from : l.from ≤ l.at; between : (k : ℕ) → l.from ≤ k → k < l.at → is_marked l.self.words k ≡ false }

abbrev pub decreases-loop-at : goal.decreases-loop-at
decreases-loop-at l = l.end - l.at
