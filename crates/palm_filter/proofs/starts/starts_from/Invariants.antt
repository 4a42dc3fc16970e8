use Rattle.std.proofs.Common.{◌≡◌, ℕ, pos, ◌+ℤ◌, ◌<◌, ◌≤◌, ◌<ℤ◌, length, get_or}
use Rattle.palm_filter.specs.Index.{AreStartsFrom, value_at}
use Rattle.palm_filter.proofs.starts.starts_from.Given as goal

-- each number so far has its start, and the values before the last start are below the next number
abbrev pub invariant-loop-distance : goal.invariant-loop-distance
invariant-loop-distance l = record { count : length l.starts.items ≡ l.distance; each : AreStartsFrom l.values l.places l.least l.starts.items; within : l.start ≤ length l.places; before : (i d : ℕ) → i < l.start → value_at l.values (get_or l.places i d) <ℤ (l.least +ℤ pos l.distance) }
