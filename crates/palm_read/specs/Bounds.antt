-- Numbers of a line, each with its range.
use Rattle.std.specs.Prelude.{ℕ, ℤ, pos, neg_ℤ, ◌<◌, ◌≤◌, ◌<ℤ◌, ◌≤ℤ◌, ◌⊎◌}
use Rattle.palm_model.specs.declared.limits.TheConstants.{GREATEST_VALUE}

-- a number and the least and the greatest that may stand in its place
pub record Bounded : Type 0 where
  pub number : ℤ
  pub least : ℤ
  pub greatest : ℤ

abbrev pub IsWithin : Bounded → Type 0
IsWithin b = (b.least ≤ℤ b.number) × (b.number ≤ℤ b.greatest)

abbrev pub IsOutside : Bounded → Type 0
IsOutside b = (b.number <ℤ b.least) ⊎ (b.greatest <ℤ b.number)

abbrev pub a_value : ℤ → Bounded
a_value v = record { number = v; least = neg_ℤ (pos GREATEST_VALUE); greatest = pos GREATEST_VALUE }

-- digits, from 0 on
abbrev pub up_to : ℕ → ℕ → Bounded
up_to most n = record { number = pos n; least = pos 0; greatest = pos most }

-- a number that is counted from 1
abbrev pub from_one_to : ℕ → ℤ → Bounded
from_one_to most z = record { number = z; least = pos 1; greatest = pos most }

-- such a number, read
abbrev pub IsFromOneTo : ℕ → ℕ → Type 0
IsFromOneTo most n = (0 < n) × (n ≤ most)
