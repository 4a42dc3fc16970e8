-- The numbers of removed pairs: a row for each variable, with the values that it lost at some time and a number beside each.
use Rattle.std.specs.Prelude.{◌≡◌, ◌≢◌, ◌⊎◌, ℕ, ◌<◌, ℤ, Bool, false, ◌&&◌, List, [], ◌∷◌, All, length, drop, filter, Contains, Option, Some, None, slice_get, slice_index_or, nat_lt, int_le, if◌then◌else◌}
use Rattle.std.specs.Ordering.{int_eq}
use Rattle.palm_base.specs.declared.terms.Pair.{Pair}
use Rattle.palm_base.specs.Ascending.{Ascends}
use Rattle.palm_explain.specs.declared.rows.Row.{Row}
use Rattle.palm_explain.specs.declared.rows.TheConstants.{NO_NUMBER}

-- the number that stands at the place of the value
abbrev pub number_in : List ℤ → List ℕ → ℤ → Option ℕ
number_in [] numbers v = None
number_in (w ∷ values) [] v = None
number_in (w ∷ values) (k ∷ numbers) v = if int_eq w v then Some k else number_in values numbers v

-- the number of the value
abbrev pub value_number : Row → ℤ → Option ℕ
value_number r v = number_in r.values.items r.numbers.items v

-- the value stands at the place
abbrev pub StandsAt : Row → ℤ → ℕ → Type 0
StandsAt r v place = (place < length r.values.items) × (slice_index_or r.values.items place v ≡ v)

-- the values ascend, and there is a number for each
pub record IsFormedRow (r : Row) : Type 0 where
  pub ascends : Ascends r.values.items
  pub numbers : length r.numbers.items ≡ length r.values.items

abbrev pub AreFormedRows : List Row → Type 0
AreFormedRows rows = All IsFormedRow rows

abbrev pub row_number : Option Row → ℤ → Option ℕ
row_number None v = None
row_number (Some r) v = number_in r.values.items r.numbers.items v

-- the number of the pair
abbrev pub number_at : List Row → Pair → Option ℕ
number_at rows p = row_number (slice_get rows p.var) p.value

-- the pair has the number, and is removed
pub record HasNumber (rows : List Row) (p : Pair) (k : ℕ) : Type 0 where
  pub stands : number_at rows p ≡ Some k
  pub removed : k ≢ NO_NUMBER

-- all numbers stay, and what has another one is not removed
pub record KeepsRemovals (old new : List Row) : Type 0 where
  pub stay : (p : Pair) (k : ℕ) → number_at old p ≡ Some k → number_at new p ≡ Some k
  pub only : (p : Pair) (k : ℕ) → number_at new p ≡ Some k → (number_at old p ≡ Some k) ⊎ (k ≡ NO_NUMBER)

-- each of these pairs was removed before the number
abbrev pub WereRemoved : List Row → ℕ → List Pair → Type 0
WereRemoved rows n pairs = (p : Pair) → Contains pairs p → (k : ℕ) × (number_at rows p ≡ Some k) × (k < n)

-- the pair at the place of the one list is the variable's value at the place of its row
abbrev pub IsNext : Row → ℕ → List Pair → ℕ → ℕ → Type 0
IsNext r x pairs next place = (v : ℤ) × (slice_get pairs next ≡ Some (record { var = x; value = v })) × (slice_get r.values.items place ≡ Some v)

-- ---- the removals of a span

-- whether there is a number, and a less one
abbrev pub is_less : Option ℕ → ℕ → Bool
is_less None n = false
is_less (Some k) n = nat_lt k n

-- the values from the place on, up to `high`, that were removed before the number
abbrev pub rest_in : Row → ℕ → ℤ → ℕ → List ℤ
rest_in r n high place = filter (λ v. int_le v high && is_less (number_in r.values.items r.numbers.items v) n) (drop place r.values.items)

-- those from `low` on
abbrev pub span_in : Row → ℕ → ℤ → ℤ → List ℤ
span_in r n low high = filter (λ v. int_le low v && (int_le v high && is_less (number_in r.values.items r.numbers.items v) n)) r.values.items
