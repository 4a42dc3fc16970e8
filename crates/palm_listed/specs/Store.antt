-- What a store has while pairs are taken out of it, and when they are put back.
use Rattle.std.specs.Prelude.{◌≡◌, ℕ, ℤ, List, length, Contains}
use Rattle.palm_base.specs.declared.terms.Pair.{Pair}
use Rattle.palm_domain.specs.Rows.{IsDeclared, IsPresent, Row, initial_of}

-- all declared values are present
abbrev pub IsFull : List Row → Type 0
IsFull rows = (x : ℕ) (v : ℤ) → IsDeclared rows x v → IsPresent rows x v

-- these pairs are gone, and no others
pub record TakesOut (before after : List Row) (pairs : List Pair) : Type 0 where
  pub variables : length after ≡ length before
  pub initial : initial_of after ≡ initial_of before
  pub left : (x : ℕ) (v : ℤ) → IsPresent after x v → IsPresent before x v × (Contains pairs (record { var = x; value = v }) → ⊥)
  pub stays : (x : ℕ) (v : ℤ) → IsPresent before x v → (Contains pairs (record { var = x; value = v }) → ⊥) → IsPresent after x v

-- these pairs are there, and what was there still is
pub record PutsBack (before after : List Row) (pairs : List Pair) : Type 0 where
  pub variables : length after ≡ length before
  pub initial : initial_of after ≡ initial_of before
  pub there : (p : Pair) → Contains pairs p → IsPresent after p.var p.value
  pub keeps : (x : ℕ) (v : ℤ) → IsPresent before x v → IsPresent after x v
