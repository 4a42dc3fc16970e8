-- Removed pairs, and the words that the reasons of all kinds share. A removed pair is a declared one that is not present.
use Rattle.std.specs.Prelude.{ℕ, ℤ, Bool, false, not, List, [], ◌∷◌, map, filter, flat_map, nat_eq}
use Rattle.std.specs.List.{list_any}
use Rattle.std.specs.Ordering.{int_eq}
use Rattle.palm_base.specs.declared.terms.Pair.{Pair}
use Rattle.palm_model.specs.Domains.{Domains, values_of}

-- whether the value is among the values
abbrev pub is_listed : List ℤ → ℤ → Bool
is_listed vs v = list_any (λ w. int_eq w v) vs

-- whether the value is the only one of the values
abbrev pub is_alone : List ℤ → ℤ → Bool
is_alone [] v = false
is_alone (w ∷ []) v = int_eq w v
is_alone (w ∷ u ∷ ws) v = false

-- the pairs of a variable with these values
abbrev pub pairs_of : ℕ → List ℤ → List Pair
pairs_of x vs = map (λ v. record { var = x; value = v }) vs

-- the variables other than x
abbrev pub others : List ℕ → ℕ → List ℕ
others xs x = filter (λ y. not (nat_eq y x)) xs

-- the declared values of a variable that are not present
abbrev pub removed_values : Domains → Domains → ℕ → List ℤ
removed_values initial present x = filter (λ v. not (is_listed (values_of present x) v)) (values_of initial x)

-- the removed pairs of these variables
abbrev pub removed_pairs : Domains → Domains → List ℕ → List Pair
removed_pairs initial present xs = flat_map (λ y. pairs_of y (removed_values initial present y)) xs
