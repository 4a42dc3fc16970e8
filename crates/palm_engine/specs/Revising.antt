-- What holds while a constraint is being revised, and what its walk over some of its pairs does.
use Rattle.std.specs.Prelude.{◌≡◌, ℕ, zero, suc, ◌+◌, ◌-◌, ◌<◌, ◌≤◌, ℤ, min, Bool, true, false, Option, None, Some, IfSome, is_some, List, [], ◌∷◌, ◌++◌, Contains}
use Rattle.palm_base.specs.declared.terms.Pair.{Pair}
use Rattle.palm_base.specs.declared.terms.Cid.{Cid}
use Rattle.palm_base.specs.declared.limits.TheConstants.{LAST_COUNT}
use Rattle.palm_domain.specs.Rows.{present_of}
use Rattle.palm_model.specs.Domains.{Has}
use Rattle.palm_model.specs.Support.{IsSupported}
use Rattle.palm_model.specs.Log.{Active}
use Rattle.palm_model.specs.State.{EngineState, IsValid, IsEmptyAt, IsSettled, AllFilled, present}
use Rattle.palm_agenda.specs.Agenda.{Takes, TakesClear}
use Rattle.palm_engine.specs.Settling.{Walks, IsDue, HasReached, walk_order, rested}
use Rattle.palm_engine.specs.declared.settle.Settle.{Settle}
use Rattle.palm_engine.specs.declared.settle.Settle.TheVariants.{Settled, Empty, Stopped}
use Rattle.palm_engine.specs.Kept.{IsInStep, state_in_revision}
use Rattle.palm_engine.specs.Work.{users_removals}
use Rattle.palm_engine.specs.declared.filtering.Filtering.{Filtering}

-- what holds at every moment of the constraint's revision
pub record IsRevising (f : Filtering) (active : List Active) (owner : Active) : Type 0 where
  pub kept : IsInStep f active
  pub valid : IsValid (state_in_revision f active owner.cid)
  pub posted : Contains active owner

-- a constraint that took out so many values is pending again if these are some, and if not the pending ones are the same
abbrev pub IsAgain : ℕ → Cid → Filtering → Filtering → Type 0
IsAgain zero cid before after = after.agenda.pending ≡ before.agenda.pending
IsAgain (suc n) cid before after = Contains after.agenda.pending cid

-- the constraint's walk over these pairs
pub record Walked (active : List Active) (owner : Active) (pairs : List Pair) (before after : Filtering) : Type 0 where
  pub removed : ℕ
  pub walk : Walks owner pairs (state_in_revision before active owner.cid) removed (state_in_revision after active owner.cid)
  pub again : IsAgain removed owner.cid before after

-- the constraint's walk over these pairs, as far as it came: to one that it has to take out
pub record WalkedPart (active : List Active) (owner : Active) (pairs : List Pair) (before after : Filtering) : Type 0 where
  pub done : List Pair
  pub next : Pair
  pub left : List Pair
  pub order : pairs ≡ done ++ next ∷ left
  pub walked : Walked active owner done before after
  pub due : IsDue (present_of after.store) owner.con next

-- each present value of the variable has support in the constraint
abbrev pub AreSupportedAt : Filtering → Active → ℕ → Type 0
AreSupportedAt f owner x = (v : ℤ) → Has (present_of f.store) x v → IsSupported (present_of f.store) owner.con x v

-- support was asked for at most so often, and the checks rose alike
pub record HasTicked (most : ℕ) (before after : Filtering) (old new : ℕ) : Type 0 where
  pub later : old ≤ new
  pub few : new ≤ old + most
  pub checks : before.checks ≤ LAST_COUNT → after.checks ≡ min (before.checks + (new - old)) LAST_COUNT

-- and where it was not asked for, no constraint of a user took a value out
pub record HasCounted (most : ℕ) (before after : Filtering) (old new : ℕ) : Type 0 where
  pub ticked : HasTicked most before after old new
  pub silent : new ≡ old → users_removals after.log.log ≡ users_removals before.log.log

-- ---- in a settling

-- the constraint under the id was taken from the agenda, to be revised
pub record IsTaken (f : Filtering) (active : List Active) (cid : Cid) : Type 0 where
  pub owner : Active
  pub named : owner.cid ≡ cid
  pub revising : IsRevising f active owner
  pub absent : Contains f.agenda.pending cid → ⊥

-- the revision of the constraint under the id, which took out so many values
pub record HasRevised (active : List Active) (cid : Cid) (s t : EngineState) (removed : ℕ) : Type 0 where
  pub owner : Active
  pub posted : Contains active owner
  pub named : owner.cid ≡ cid
  pub state : EngineState
  pub walk : Walks owner (walk_order s.initial owner.con) s removed state
  pub after : t ≡ rested removed cid state

-- and as far as it came where memory ran out: to a pair that the constraint has to take out, and it is still pending
pub record HasPartlyRevised (active : List Active) (cid : Cid) (s t : EngineState) : Type 0 where
  pub owner : Active
  pub posted : Contains active owner
  pub named : owner.cid ≡ cid
  pub walked : List Pair
  pub next : Pair
  pub left : List Pair
  pub order : walk_order s.initial owner.con ≡ walked ++ next ∷ left
  pub removed : ℕ
  pub walk : Walks owner walked s removed t
  pub due : IsDue (present t) owner.con next
  pub pending : Contains t.pending cid

-- while no domain is empty and the limit is not reached, a constraint is taken from the agenda
pub record TakesNext (limit : Option ℕ) (ordered : Bool) (ran : ℕ) (before after : Filtering) (cid : Cid) : Type 0 where
  pub answer : ℕ
  pub takes : Takes before.agenda.pending after.agenda.pending answer cid
  pub fits : ordered ≡ false → answer ≡ 0
  pub below : HasReached limit ran → ⊥
  pub bounded : IfSome limit (λ most. most ≤ LAST_COUNT)
  pub filled : before.empty ≡ None
  pub connected : after.agenda.connected ≡ before.agenda.connected
  pub store : after.store ≡ before.store
  pub log : after.log ≡ before.log
  pub empty : after.empty ≡ before.empty
  pub checks : after.checks ≡ before.checks

-- how many revisions the limit still allows
abbrev pub most_left : Option ℕ → ℕ → ℕ
most_left None ran = LAST_COUNT - ran
most_left (Some limit) ran = limit - ran

-- where no order is asked and no domain is empty, the first pending constraints were taken that have no mark, as far as the limit
-- allows it, and are counted as revisions
pub record PassesClear (limit : Option ℕ) (ordered : Bool) (ran : ℕ) (before after : Filtering) (count : ℕ) : Type 0 where
  pub passed : ℕ
  pub takes : TakesClear before.agenda after.agenda (most_left limit ran) passed
  pub counted : count ≡ ran + passed
  pub free : 0 < passed → (ordered ≡ false) × (before.empty ≡ None)
  pub bounded : IfSome limit (λ most. most ≤ LAST_COUNT)
  pub rest : after ≡ record before { agenda = after.agenda }

-- no constraint is taken where a domain is empty, the limit is reached or none is pending
pub data TakesNone (limit : Option ℕ) (ran : ℕ) (f : Filtering) : Type 0 where
  none_filled : is_some f.empty ≡ true → TakesNone limit ran f
  none_allowed : HasReached limit ran → TakesNone limit ran f
  none_pending : f.agenda.pending ≡ [] → TakesNone limit ran f

-- what the answer of a settling tells of the state in which it ended
abbrev pub TellsEnd : Settle → EngineState → Type 0
TellsEnd Settled s = IsSettled s
TellsEnd (Empty x) s = IsEmptyAt (present s) x
TellsEnd Stopped s = AllFilled (present s) × (s.pending ≡ [] → ⊥)
