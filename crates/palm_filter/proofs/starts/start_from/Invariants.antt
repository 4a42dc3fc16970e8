use Rattle.std.proofs.Common.{ℕ, pos, ◌+ℤ◌, ◌<◌, ◌≤◌, ◌<ℤ◌, length, get_or}
use Rattle.palm_filter.specs.Index.{value_at}
use Rattle.palm_filter.proofs.starts.start_from.Given as goal

-- the values at the places so far are below the number
abbrev pub invariant-loop-next : goal.invariant-loop-next
invariant-loop-next l = record { within : l.next ≤ length l.places; before : (i d : ℕ) → i < l.next → value_at l.values (get_or l.places i d) <ℤ (l.least +ℤ pos l.distance) }
