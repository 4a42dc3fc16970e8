-- Revisions and settlings: which removals are made, in which order, and when it ends.
use Rattle.std.specs.Prelude.{◌≡◌, ℕ, zero, suc, ◌≤◌, ⊤, Bool, true, false, List, [], ◌∷◌, length, flat_map, Contains, All, Option, Some, None, slice_get}
use Rattle.palm_base.specs.declared.terms.Pair.{Pair}
use Rattle.palm_base.specs.declared.terms.Cid.{Cid}
use Rattle.palm_model.specs.Domains.{Domains, Has, values_of}
use Rattle.palm_model.specs.Constraint.{scope}
use Rattle.palm_model.specs.Support.{IsSupported, LacksSupport}
use Rattle.palm_model.specs.Removed.{pairs_of}
use Rattle.palm_model.specs.Log.{Active}
use Rattle.palm_model.specs.State.{EngineState, HasEmpty, AllFilled, present}
use Rattle.palm_model.specs.Event.{Removes, Step, Runs, calmed}
use Rattle.palm_events.specs.Along.{IsFiltering}
pub use Rattle.palm_agenda.specs.Agenda.{index_within}
use Rattle.palm_model.specs.declared.constraint.Con.{Con}

-- ---- revisions

-- the declared pairs of the constraint's variables: the variables in the order of the scope, the values ascending
abbrev pub walk_order : Domains → Con → List Pair
walk_order initial c = flat_map (λ x. pairs_of x (values_of initial x)) (scope c)

-- the walk over the pairs leads from s to t, and the constraint takes out so many of them: each one that is present
-- and lacks support when its turn comes, until there is none or a domain is empty
pub data Walks (a : Active) : List Pair → EngineState → ℕ → EngineState → Type 0 where
  walked_all : (s : EngineState) → Walks a [] s 0 s
  walked_empty : (pairs : List Pair) (s : EngineState) → HasEmpty (present s) → Walks a pairs s 0 s
  walked_past : (p : Pair) (pairs : List Pair) (s : EngineState) (n : ℕ) (t : EngineState)
      → (Has (present s) p.var p.value → IsSupported (present s) a.con p.var p.value) → Walks a pairs s n t → Walks a (p ∷ pairs) s n t
  walked_out : (p : Pair) (pairs : List Pair) (s m : EngineState) (n : ℕ) (t : EngineState)
      → Removes s a p m → Walks a pairs m n t → Walks a (p ∷ pairs) s (suc n) t

-- the constraint has to take the pair out: no domain is empty, the pair is present, and it lacks support
pub record IsDue (d : Domains) (c : Con) (p : Pair) : Type 0 where
  pub filled : AllFilled d
  pub has : Has d p.var p.value
  pub lacks : LacksSupport d c p.var p.value

-- what is known of a revision: the answer of the order object (0 where there is none), the constraint, and how many
-- values it took out, as the object is told
pub record Revision : Type 0 where
  pub answer : ℕ
  pub cid : Cid
  pub removed : ℕ

-- a constraint that took nothing out stops being pending
abbrev pub rested : ℕ → Cid → EngineState → EngineState
rested zero cid s = calmed s cid
rested (suc n) cid s = s

-- while no domain is empty, the pending constraint at the answered index walks over its pairs
pub record Revises (s : EngineState) (r : Revision) (t : EngineState) : Type 0 where
  pub filled : AllFilled (present s)
  pub chosen : slice_get s.pending (index_within r.answer (length s.pending)) ≡ Some r.cid
  pub owner : Active
  pub posted : Contains s.active owner
  pub named : owner.cid ≡ r.cid
  pub state : EngineState
  pub walk : Walks owner (walk_order s.initial owner.con) s r.removed state
  pub after : t ≡ rested r.removed r.cid state

-- ---- settlings

-- the revisions, one after another, lead from s to t
abbrev pub Revisions : EngineState → List Revision → EngineState → Type 0
Revisions s [] t = t ≡ s
Revisions s (r ∷ rs) t = (m : EngineState) × Revises s r m × Revisions m rs t

-- so many revisions are within the limit, if there is one
abbrev pub IsInLimit : Option ℕ → ℕ → Type 0
IsInLimit None count = ⊤
IsInLimit (Some limit) count = count ≤ limit

-- as many revisions ran as the limit says
abbrev pub HasReached : Option ℕ → ℕ → Type 0
HasReached None count = ⊥
HasReached (Some limit) count = count ≡ limit

-- a domain is empty, nothing is pending, or the limit is reached
pub data IsEnded (limit : Option ℕ) (count : ℕ) (s : EngineState) : Type 0 where
  ended_empty : HasEmpty (present s) → IsEnded limit count s
  ended_quiet : s.pending ≡ [] → IsEnded limit count s
  ended_limit : HasReached limit count → IsEnded limit count s

-- the revisions lead from s to t, where it ends; before, it goes on: each revision is within the limit, takes a
-- pending constraint, and runs while no domain is empty
pub record Settles (limit : Option ℕ) (s : EngineState) (rs : List Revision) (t : EngineState) : Type 0 where
  pub revisions : Revisions s rs t
  pub within : IsInLimit limit (length rs)
  pub ended : IsEnded limit (length rs) t

-- without an order object each revision takes the least pending constraint; an object may answer anything
abbrev pub FitsOrder : Bool → List Revision → Type 0
FitsOrder false rs = All (λ r. r.answer ≡ 0) rs
FitsOrder true rs = ⊤

-- the k-th revision, counted from 0, was answered by f k
abbrev pub IsAnswered : (ℕ → ℕ) → List Revision → Type 0
IsAnswered f [] = ⊤
IsAnswered f (r ∷ rs) = (r.answer ≡ f 0) × IsAnswered (λ k. f (suc k)) rs

-- a settling that is answered so, and where it leads
pub record SettlesSome (limit : Option ℕ) (f : ℕ → ℕ) (s : EngineState) : Type 0 where
  pub revisions : List Revision
  pub state : EngineState
  pub settles : Settles limit s revisions state
  pub answered : IsAnswered f revisions

-- a settling without an order object
pub record SettlesPlainly (limit : Option ℕ) (s : EngineState) : Type 0 where
  pub revisions : List Revision
  pub state : EngineState
  pub fits : FitsOrder false revisions
  pub settles : Settles limit s revisions state

-- two settlings are one
pub record IsSameSettling (qs : List Revision) (t : EngineState) (rs : List Revision) (u : EngineState) : Type 0 where
  pub revisions : qs ≡ rs
  pub state : t ≡ u

-- ---- filtering

-- removals, and closed constraints that stop being pending, lead from s to t
pub record Filters (s t : EngineState) : Type 0 where
  pub steps : List Step
  pub run : Runs s steps t
  pub filtering : All IsFiltering steps
  pub active : t.active ≡ s.active
  pub initial : t.initial ≡ s.initial
