-- Domains and assignments.
use Rattle.std.specs.Prelude.{ℕ, ℤ, ◌+◌, List, [], ◌∷◌, Contains, All, Bool, not, filter, nat_eq, ◌&&◌}
use Rattle.std.specs.List.{list_any}
use Rattle.std.specs.Ordering.{int_eq}
pub use Rattle.palm_base.specs.Ascending.{Ascends}
pub use Rattle.palm_base.specs.Values.{values_of}
use Rattle.palm_base.specs.declared.terms.Pair.{Pair}

-- a list of values for each variable; a variable is the place of its list
abbrev pub Domains : Type 0
Domains = List (List ℤ)

-- a value for each variable; what it gives to variables that are not spoken of does not matter
abbrev pub Assignment : Type 0
Assignment = ℕ → ℤ

-- the variable has the value
abbrev pub Has : Domains → ℕ → ℤ → Type 0
Has d x v = Contains (values_of d x) v

-- each value of d is one of e
abbrev pub IsInside : Domains → Domains → Type 0
IsInside d e = (x : ℕ) (v : ℤ) → Has d x v → Has e x v

-- the variables of the scope have values of their domains
abbrev pub IsWithin : Assignment → List ℕ → Domains → Type 0
IsWithin a scope d = (x : ℕ) → Contains scope x → Has d x (a x)

-- the values of each variable ascend
abbrev pub AllAscend : Domains → Type 0
AllAscend d = All Ascends d

-- the pair is among the pairs, as a test
abbrev pub is_among : List Pair → ℕ → ℤ → Bool
is_among pairs x v = list_any (λ p. nat_eq p.var x && int_eq p.value v) pairs

-- the domains of the variables from number x on, without these pairs
abbrev pub without_from : ℕ → Domains → List Pair → Domains
without_from x [] pairs = []
without_from x (vs ∷ d) pairs = filter (λ v. not (is_among pairs x v)) vs ∷ without_from (x + 1) d pairs

-- the domains without these pairs
abbrev pub without : Domains → List Pair → Domains
without d pairs = without_from 0 d pairs
