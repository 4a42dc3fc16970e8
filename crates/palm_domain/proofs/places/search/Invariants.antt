use Rattle.std.proofs.Common.{◌-◌, ℕ, ℤ, ◌<◌, ◌≤◌, ◌<ℤ◌, ◌≤ℤ◌, length, get_or}
use Rattle.palm_domain.proofs.places.search.Given as goal

abbrev pub invariant-loop-low : goal.invariant-loop-low
invariant-loop-low l = record { ordered : l.low ≤ l.high; within : l.high ≤ length l.values; below : (k : ℕ) (d : ℤ) → k < l.low → get_or l.values k d <ℤ l.value; above : (k : ℕ) (d : ℤ) → l.high ≤ k → k < length l.values → l.value ≤ℤ get_or l.values k d }

abbrev pub decreases-loop-low : goal.decreases-loop-low
decreases-loop-low l = l.high - l.low
