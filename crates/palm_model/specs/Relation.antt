-- Relations between two numbers.
use Rattle.std.specs.Prelude.{◌≡◌, ◌≢◌, ℤ, ◌<ℤ◌, ◌≤ℤ◌, Bool, not, int_lt}
use Rattle.std.specs.Ordering.{int_eq}
use Rattle.palm_model.specs.declared.constraint.Op.{Op}
use Rattle.palm_model.specs.declared.constraint.Op.TheVariants.{Eq, Ne, Lt, Le, Gt, Ge}

-- m stands in the relation to n
abbrev pub Stands : Op → ℤ → ℤ → Type 0
Stands Eq m n = m ≡ n
Stands Ne m n = m ≢ n
Stands Lt m n = m <ℤ n
Stands Le m n = m ≤ℤ n
Stands Gt m n = n <ℤ m
Stands Ge m n = n ≤ℤ m

-- whether m stands in the relation to n
abbrev pub is_standing : Op → ℤ → ℤ → Bool
is_standing Eq m n = int_eq m n
is_standing Ne m n = not (int_eq m n)
is_standing Lt m n = int_lt m n
is_standing Le m n = not (int_lt n m)
is_standing Gt m n = int_lt n m
is_standing Ge m n = not (int_lt m n)
