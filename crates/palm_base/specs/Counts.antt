-- Counts that end at a last number.
use Rattle.std.specs.Prelude.{ℕ, ◌+◌, min}
use Rattle.palm_base.specs.declared.limits.TheConstants.{LAST_COUNT}

-- one more, up to the last number of a count
abbrev pub one_more : ℕ → ℕ
one_more n = min (n + 1) LAST_COUNT
