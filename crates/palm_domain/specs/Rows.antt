-- The rows of a store, one for each variable, and what its calls say of them.
use Rattle.std.specs.Prelude.{◌≡◌, ℕ, ◌+◌, ◌^◌, ℤ, pos, ◌+ℤ◌, ◌<◌, ◌≤◌, ◌<ℤ◌, ◌≤ℤ◌, List, [], ◌∷◌, All, Contains, Some, not, filter, map, length, nat_eq, int_lt, slice_get, if◌then◌else◌}
use Rattle.std.specs.Int.{bit_at}
use Rattle.std.specs.Ordering.{int_eq}
pub use Rattle.palm_base.specs.Ascending.{Ascends}
pub use Rattle.palm_base.specs.Values.{values_of}
use Rattle.palm_base.specs.Tells.{Tells}
use Rattle.palm_domain.specs.declared.limits.TheConstants.{MOST_VALUES}
use Rattle.palm_domain.specs.declared.placed.Placed.{Placed}

-- the values that a variable was declared with, and those of them that are left
pub record Row : Type 0 where
  pub initial : List ℤ
  pub present : List ℤ

-- the declared values of each variable
abbrev pub initial_of : List Row → List (List ℤ)
initial_of rows = map (λ r. r.initial) rows

-- the present values of each variable
abbrev pub present_of : List Row → List (List ℤ)
present_of rows = map (λ r. r.present) rows

abbrev pub declared_values : List Row → ℕ → List ℤ
declared_values rows x = values_of (initial_of rows) x

abbrev pub present_values : List Row → ℕ → List ℤ
present_values rows x = values_of (present_of rows) x

-- the variable has the value, among the declared ones and among the present ones
abbrev pub IsDeclared : List Row → ℕ → ℤ → Type 0
IsDeclared rows x v = Contains (declared_values rows x) v

abbrev pub IsPresent : List Row → ℕ → ℤ → Type 0
IsPresent rows x v = Contains (present_values rows x) v

-- the value stands at its place among these
abbrev pub StandsIn : List ℤ → Placed → Type 0
StandsIn values p = slice_get values p.place ≡ Some p.value

-- and so among the declared values of the variable
abbrev pub IsPlaced : List Row → ℕ → Placed → Type 0
IsPlaced rows x p = StandsIn (declared_values rows x) p

-- the values but this one
abbrev pub values_without : ℤ → List ℤ → List ℤ
values_without v vs = filter (λ w. not (int_eq w v)) vs

-- the values with this one before the first that is above it
abbrev pub values_with : ℤ → List ℤ → List ℤ
values_with v [] = v ∷ []
values_with v (w ∷ ws) = if int_lt v w then v ∷ w ∷ ws else (w ∷ values_with v ws)

-- the values leave out no number between the first and the last of them
abbrev pub IsGapless : List ℤ → Type 0
IsGapless vs = (low : ℤ) × ((k : ℕ) → k < length vs → slice_get vs k ≡ Some (low +ℤ pos k))

-- from this place on, the values are one number after another, from the first on
pub record HasRun (vs : List ℤ) (first : ℤ) (place : ℕ) : Type 0 where
  pub within : place < length vs
  pub each : (k : ℕ) → place + k < length vs → slice_get vs (place + k) ≡ Some (first +ℤ pos k)

-- bit k of the word tells whether the values have the number k above the first
abbrev pub IsWindow : List ℤ → ℤ → ℕ → Type 0
IsWindow vs first word = (k : ℕ) → k < 64 → Tells (nat_eq (bit_at word k) 1) (Contains vs (first +ℤ pos k))

-- the lowest of the values
pub record IsLeastOf (vs : List ℤ) (v : ℤ) : Type 0 where
  pub member : Contains vs v
  pub least : (w : ℤ) → Contains vs w → v ≤ℤ w

-- the highest of the values
pub record IsGreatestOf (vs : List ℤ) (v : ℤ) : Type 0 where
  pub member : Contains vs v
  pub greatest : (w : ℤ) → Contains vs w → w ≤ℤ v

-- the lowest of the values from `low` on
pub record IsNextFrom (vs : List ℤ) (low v : ℤ) : Type 0 where
  pub member : Contains vs v
  pub from : low ≤ℤ v
  pub least : (w : ℤ) → Contains vs w → low ≤ℤ w → v ≤ℤ w

-- the highest of the values below `high`
pub record IsLastBefore (vs : List ℤ) (high v : ℤ) : Type 0 where
  pub member : Contains vs v
  pub below : v <ℤ high
  pub greatest : (w : ℤ) → Contains vs w → w <ℤ high → w ≤ℤ v

-- the lowest of the declared values from `low` on that is not present
pub record IsNextRemovedFrom (initial present : List ℤ) (low v : ℤ) : Type 0 where
  pub declared : Contains initial v
  pub removed : Contains present v → ⊥
  pub from : low ≤ℤ v
  pub least : (w : ℤ) → Contains initial w → low ≤ℤ w → w <ℤ v → Contains present w

-- what holds of each row of a store
pub record IsFormed (r : Row) : Type 0 where
  pub ascends : Ascends r.initial
  pub filled : 0 < length r.initial
  pub small : length r.initial ≤ MOST_VALUES
  pub present_ascends : Ascends r.present
  pub inside : (v : ℤ) → Contains r.present v → Contains r.initial v

-- what holds of the rows of a store, whose variables have numbers of 32 bits
pub record AreFormed (rows : List Row) : Type 0 where
  pub few : length rows < 2 ^ 32
  pub each : All IsFormed rows

-- after this pair was taken out, no other pair is gone, and none has come
pub record LosesPair (before after : List Row) (x : ℕ) (v : ℤ) : Type 0 where
  pub gone : IsPresent after x v → ⊥
  pub others : (y : ℕ) (w : ℤ) → (y ≡ x → w ≡ v → ⊥) → IsPresent before y w → IsPresent after y w
  pub inside : (y : ℕ) (w : ℤ) → IsPresent after y w → IsPresent before y w

-- after this pair was put back, no other pair has come, and none is gone
pub record GainsPair (before after : List Row) (x : ℕ) (v : ℤ) : Type 0 where
  pub there : IsPresent after x v
  pub others : (y : ℕ) (w : ℤ) → IsPresent before y w → IsPresent after y w
  pub inside : (y : ℕ) (w : ℤ) → (y ≡ x → w ≡ v → ⊥) → IsPresent after y w → IsPresent before y w
