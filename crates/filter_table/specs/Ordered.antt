-- Ascending values, and one more of them.
use Rattle.std.specs.Prelude.{◌≡◌, ℕ, ℤ, List, ◌∷◌, ◌++◌, filter, int_lt, Some, slice_get}
use Rattle.palm_base.specs.declared.terms.Pair.{Pair}

-- the values with v among them
abbrev pub with_value : List ℤ → ℤ → List ℤ
with_value vs v = filter (λ w. int_lt w v) vs ++ v ∷ filter (λ w. int_lt v w) vs

-- a pair with the value stands at the place
abbrev pub HasValueAt : List Pair → ℕ → ℤ → Type 0
HasValueAt pairs k v = (p : Pair) × (slice_get pairs k ≡ Some p) × (p.value ≡ v)
