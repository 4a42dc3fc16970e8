-- What an engine keeps beside its active constraints, and what holds of it.
use Rattle.std.specs.Prelude.{◌≡◌, ℕ, ℤ, List, [], ◌∷◌, map, Contains, Option, Some, None, slice_get}
use Rattle.palm_base.specs.declared.terms.Cid.{Cid}
use Rattle.palm_domain.specs.Rows.{initial_of, present_of}
use Rattle.palm_model.specs.Domains.{Domains, Has}
use Rattle.palm_model.specs.Constraint.{scope}
use Rattle.palm_model.specs.Support.{IsSupported}
use Rattle.palm_model.specs.Log.{Active, log_pairs}
use Rattle.palm_model.specs.State.{EngineState, IsValid, IsEmptyAt, AllFilled, woken}
use Rattle.palm_events.specs.Scoped.{HasScopedReasons}
use Rattle.palm_explain.specs.Explanations.{LacksExactly}
use Rattle.palm_filter.specs.declared.heed.Heed.{Heed}
use Rattle.palm_filter.specs.Heeds.{IsHeeded}
use Rattle.palm_agenda.specs.declared.mark.Mark.{Mark}
use Rattle.palm_agenda.specs.Agenda.{Connected, IsFormed}
use Rattle.palm_agenda.specs.Losses.{heed_of}
use Rattle.palm_agenda.specs.Marks.{MayLack}
use Rattle.palm_engine.specs.declared.filtering.Filtering.{Filtering}

-- the state that is seen
abbrev pub state_of : Filtering → List Active → EngineState
state_of f active = record { initial = initial_of f.store; active = active; log = f.log.log; pending = f.agenda.pending }

-- the same while the constraint under the id is being revised: it is still pending
abbrev pub state_in_revision : Filtering → List Active → Cid → EngineState
state_in_revision f active cid = record (state_of f active) { pending = woken active (cid ∷ f.agenda.pending) [] }

-- an id with the variables of its constraint
pub record Scoped : Type 0 where
  pub cid : Cid
  pub scope : List ℕ

-- the agenda knows each active constraint by its id and its scope
abbrev pub AreConnected : List Active → List Connected → Type 0
AreConnected active connected =
    map (λ (d : Connected). let s : Scoped = record { cid = d.cid; scope = d.scope } in s) connected
    ≡ map (λ (a : Active). let s : Scoped = record { cid = a.cid; scope = scope a.con } in s) active

-- the constraint heeds losses so, for each place of its scope
abbrev pub IsHeededAs : Active → List Heed → Type 0
IsHeededAs a heeds = (x : ℕ) → Contains (scope a.con) x → IsHeeded a.con x (heed_of x (scope a.con) heeds)

-- and the agenda knows it of each active constraint
abbrev pub AreHeeded : List Active → List Connected → Type 0
AreHeeded active connected = (a : Active) (c : Connected) → Contains active a → Contains connected c → c.cid ≡ a.cid → IsHeededAs a c.heeds

-- each present value of the variable at a place has support where the place's mark leaves it out
abbrev pub AreMarked : Domains → List Active → List Connected → Type 0
AreMarked d active connected = (a : Active) (c : Connected) (k x : ℕ) (m : Mark) (v : ℤ)
    → Contains active a → Contains connected c → c.cid ≡ a.cid
    → slice_get c.scope k ≡ Some x → slice_get c.marks k ≡ Some m → (MayLack m v → ⊥) → Has d x v → IsSupported d a.con x v

-- the empty variable is known, and there is no other one
abbrev pub IsEmptyKept : Domains → Option ℕ → Type 0
IsEmptyKept d None = AllFilled d
IsEmptyKept d (Some x) = IsEmptyAt d x × ((y : ℕ) → IsEmptyAt d y → y ≡ x)

-- what holds at every moment, in the middle of a revision too
pub record IsInStep (f : Filtering) (active : List Active) : Type 0 where
  pub removed : LacksExactly f.store (log_pairs f.log.log)
  pub formed : IsFormed f.agenda
  pub connected : AreConnected active f.agenda.connected
  pub heeded : AreHeeded active f.agenda.connected
  pub marked : AreMarked (present_of f.store) active f.agenda.connected
  pub empty : IsEmptyKept (present_of f.store) f.empty

-- what holds between two calls
pub record IsEngine (f : Filtering) (active : List Active) : Type 0 where
  pub kept : IsInStep f active
  pub valid : IsValid (state_of f active)
  pub scoped : HasScopedReasons (state_of f active)
