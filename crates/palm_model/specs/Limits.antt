-- The limits of the language on numbers and lists, which all kinds of constraint share.
use Rattle.std.specs.Prelude.{ℕ, ℤ, pos, ◌<◌, ◌≤◌, ◌-ℤ◌, ◌≤ℤ◌, List, length}
use Rattle.palm_model.specs.declared.limits.TheConstants.{GREATEST_VALUE, MOST_ROWS}

-- z is from -n to n
pub record IsUpTo (n : ℕ) (z : ℤ) : Type 0 where
  pub above : ((pos 0 -ℤ pos n) ≤ℤ z)
  pub below : z ≤ℤ pos n

-- a value of the language
abbrev pub IsValue : ℤ → Type 0
IsValue v = IsUpTo GREATEST_VALUE v

-- at least one member, and no more than a table may have rows
abbrev pub IsFewRows : {X : Type 0} → List X → Type 0
IsFewRows xs = (0 < length xs) × (length xs ≤ MOST_ROWS)
