use Rattle.std.proofs.Common.{◌≡◌, ℕ, ◌<◌, ◌≤◌, false}
use Rattle.palm_domain.specs.Marks.{is_marked}
use Rattle.palm_domain.proofs.marks.Marks.end_below.Given as goal

abbrev pub invariant-loop-at : goal.invariant-loop-at
invariant-loop-at l = record { within : l.at ≤ l.before; between : (k : ℕ) → l.at ≤ k → k < l.before → is_marked l.self.words k ≡ false }

abbrev pub decreases-loop-at : goal.decreases-loop-at
decreases-loop-at l = l.at
