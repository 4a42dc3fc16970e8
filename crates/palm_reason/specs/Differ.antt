-- What another variable that is to differ leaves for a value.
use Rattle.std.specs.Prelude.{◌≡◌, ℕ, ℤ, List, Contains}
use Rattle.palm_model.specs.Domains.{Domains, values_of}

-- one of the values is another one than v
pub record HasOther (vs : List ℤ) (v : ℤ) : Type 0 where
  pub value : ℤ
  pub member : Contains vs value
  pub apart : value ≡ v → ⊥

-- y is one of the variables and not x, and has no other value than v
pub record TakesRoom (present : Domains) (vars : List ℕ) (x : ℕ) (v : ℤ) : Type 0 where
  pub var : ℕ
  pub member : Contains vars var
  pub apart : var ≡ x → ⊥
  pub none : HasOther (values_of present var) v → ⊥
