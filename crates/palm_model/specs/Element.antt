-- Elements of a list, chosen by an index that is counted from 1: scope, limits, parts, reason.
use Rattle.std.specs.Prelude.{◌≡◌, ℕ, zero, suc, ℤ, pos, negsuc, ◌+◌, List, [], ◌∷◌, filter, All, Bool, false, Option, Some, None, slice_get, nat_eq, if◌then◌else◌, ⊤}
use Rattle.std.specs.Ordering.{int_eq}
use Rattle.palm_base.specs.declared.terms.Pair.{Pair}
use Rattle.palm_model.specs.Domains.{Assignment, Domains, values_of}
use Rattle.palm_model.specs.Limits.{IsFewRows, IsValue}
use Rattle.palm_model.specs.Removed.{pairs_of}
use Rattle.palm_model.specs.declared.constraint.Con.{Con}
use Rattle.palm_model.specs.declared.constraint.Con.TheVariants.{CompareVar, CompareConst, Linear, Table, Element, Count, Differ}

-- an element of a list
abbrev pub IsElement : Con → Type 0
IsElement (Element outcome index entries) = ⊤
IsElement _ = ⊥

-- the outcome first, then the index
abbrev pub element_scope : ℕ → ℕ → List ℕ
element_scope outcome index = outcome ∷ index ∷ []

-- some entries, not too many, of values of the language
abbrev pub IsElementShaped : List ℤ → Type 0
IsElementShaped entries = IsFewRows entries × All IsValue entries

-- the outcome is the entry at the index
abbrev pub HoldsElement : ℕ → ℕ → List ℤ → Assignment → Type 0
HoldsElement outcome index entries a = (k : ℕ) × (a index ≡ pos (k + 1)) × (slice_get entries k ≡ Some (a outcome))

-- the entry at an index that is counted from 1
abbrev pub entry_at : List ℤ → ℤ → Option ℤ
entry_at entries (pos zero) = None
entry_at entries (pos (suc k)) = slice_get entries k
entry_at entries (negsuc n) = None

-- whether there is a number, and it is w
abbrev pub yields : Option ℤ → ℤ → Bool
yields None w = false
yields (Some v) w = int_eq v w

-- whether the entry at the index is w
abbrev pub is_entry : List ℤ → ℤ → ℤ → Bool
is_entry entries k w = yields (entry_at entries k) w

-- the declared indices whose entry is w
abbrev pub indices_of : Domains → ℕ → List ℤ → ℤ → List ℤ
indices_of initial index entries w = filter (λ k. is_entry entries k w) (values_of initial index)

-- the entry at index k, where it is declared
abbrev pub outcomes_at : Domains → ℕ → List ℤ → ℤ → List ℤ
outcomes_at initial outcome entries k = filter (λ w. is_entry entries k w) (values_of initial outcome)

-- the indices that would give the outcome, or the outcome that the index would give
abbrev pub element_reason : Domains → ℕ → ℕ → List ℤ → ℕ → ℤ → List Pair
element_reason initial outcome index entries x v =
    if nat_eq x outcome then pairs_of index (indices_of initial index entries v) else pairs_of outcome (outcomes_at initial outcome entries v)
