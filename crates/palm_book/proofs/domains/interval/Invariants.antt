use Rattle.std.proofs.Common.{◌≡◌, ◌+◌, ◌-ℤ◌, ◌≤ℤ◌, ◌<ℤ◌}
use Rattle.palm_read.specs.Domain.{count_in, from_on}
use Rattle.palm_book.proofs.domains.interval.Given as goal

abbrev pub invariant-loop-value : goal.invariant-loop-value
invariant-loop-value l =
    (l.values ≡ from_on l.fn.low (count_in (l.value -ℤ l.fn.low) + 1))
    × (l.fn.low ≤ℤ l.value) × (l.fn.low <ℤ l.value → l.value ≤ℤ l.fn.high)
