-- Closed domains, the greatest of them, and what follows where they lack a value. A set of constraints is a
-- predicate; a list of constraints stands for the set of its members.
use Rattle.std.specs.Prelude.{◌≡◌, ℕ, ℤ, ◌<◌, length, Contains}
use Rattle.palm_model.specs.Domains.{Domains, Assignment, Has, IsInside, AllAscend}
use Rattle.palm_model.specs.Part.{scope_of, parts, Satisfies}
use Rattle.palm_model.specs.Support.{HasSupport}
use Rattle.palm_model.specs.declared.constraint.Con.{Con}
use Rattle.palm_model.specs.declared.part.Part.{Part}

-- every value of each variable of a part has support in that part
abbrev pub IsClosedFor : Part → Domains → Type 0
IsClosedFor p d = (x : ℕ) (v : ℤ) → Contains (scope_of p) x → Has d x v → HasSupport d p x v

-- closed for every part of the constraint
abbrev pub IsClosedBy : Con → Domains → Type 0
IsClosedBy c d = (p : Part) → Contains (parts c) p → IsClosedFor p d

-- closed for every part of every constraint
abbrev pub IsClosed : (Con → Type 0) → Domains → Type 0
IsClosed E d = (c : Con) (p : Part) → E c → Contains (parts c) p → IsClosedFor p d

-- inside the initial domains, closed, and including all others that are both
pub record IsGreatest (initial : Domains) (E : Con → Type 0) (d : Domains) : Type 0 where
  pub ascend : AllAscend d
  pub variables : length d ≡ length initial
  pub inside : IsInside d initial
  pub closed : IsClosed E d
  pub includes : (e : Domains) → IsInside e initial → IsClosed E e → IsInside e d

-- no closed domains inside the initial ones have the value
abbrev pub Explains : Domains → (Con → Type 0) → ℕ → ℤ → Type 0
Explains initial E x v = (d : Domains) → IsInside d initial → IsClosed E d → Has d x v → ⊥

-- some variable has no value in any closed domains inside the initial ones
abbrev pub IsConflict : Domains → (Con → Type 0) → Type 0
IsConflict initial E = (x : ℕ) × (x < length initial) × ((v : ℤ) → Explains initial E x v)

-- an assignment inside the initial domains that satisfies every constraint
pub record IsSolution (initial : Domains) (E : Con → Type 0) (a : Assignment) : Type 0 where
  pub within : (x : ℕ) → x < length initial → Has initial x (a x)
  pub satisfies : (c : Con) → E c → Satisfies a c
