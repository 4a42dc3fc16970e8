-- The other variables that are to differ, and what they leave for a value.
use Rattle.std.specs.Prelude.{◌≡◌, ℕ, ℤ, List, take, filter, Bool, not, ◌&&◌, nat_eq}
use Rattle.palm_model.specs.Domains.{Domains, values_of}
use Rattle.palm_model.specs.Removed.{is_alone, others}
pub use Rattle.palm_reason.specs.Differ.{HasOther, TakesRoom}

-- y has another value than v, if it is not x itself
pub record LeavesRoom (present : Domains) (x : ℕ) (v : ℤ) (y : ℕ) : Type 0 where
  pub other : (y ≡ x → ⊥) → HasOther (values_of present y) v

-- whether y is not x and has v alone
abbrev pub is_lone : Domains → ℕ → ℤ → ℕ → Bool
is_lone present x v y = not (nat_eq y x) && is_alone (values_of present y) v

-- the first variable other than x that has v alone, if any
abbrev pub first_lone : Domains → List ℕ → ℕ → ℤ → List ℕ
first_lone present vars x v = take 1 (filter (λ y. is_alone (values_of present y) v) (others vars x))
