-- What may happen to the state of an engine, in any order. Nothing here says in which order constraints are filtered.
use Rattle.std.specs.Prelude.{◌≡◌, ℕ, ℤ, not, List, [], ◌∷◌, ◌++◌, length, map, filter, Contains}
use Rattle.palm_base.specs.declared.terms.Pair.{Pair}
use Rattle.palm_base.specs.declared.terms.Cid.{Cid}
use Rattle.palm_model.specs.Domains.{Ascends, Has, is_among}
use Rattle.palm_model.specs.Support.{LacksSupport}
use Rattle.palm_model.specs.Reason.{reason}
use Rattle.palm_base.specs.Order.{cid_before}
use Rattle.palm_model.specs.Log.{Active, IsActive, Removal, Loses, cids_of, log_pairs, is_named}
use Rattle.palm_model.specs.Closure.{IsClosedBy}
use Rattle.palm_model.specs.State.{EngineState, FitsCid, AllFilled, present, woken, without_cid}

-- ---- posting

-- the active constraints with one more, by rising id
abbrev pub with_posted : Active → List Active → List Active
with_posted a active = filter (λ b. cid_before b.cid a.cid) active ++ a ∷ filter (λ b. cid_before a.cid b.cid) active

-- one more constraint is active and pending
abbrev pub posted : EngineState → Active → EngineState
posted s a = let active = with_posted a s.active in
    record s { active = active; pending = woken active (a.cid ∷ s.pending) [] }

-- a constraint that is not active and is what its id says becomes active and pending
pub record Posts (s : EngineState) (a : Active) (t : EngineState) : Type 0 where
  pub inactive : IsActive s.active a.cid → ⊥
  pub formed : FitsCid (length s.initial) s.active a
  pub after : t ≡ posted s a

-- ---- withdrawing

-- the active constraints but those under these ids
abbrev pub without_cids : List Cid → List Active → List Active
without_cids gone active = filter (λ a. not (is_named gone a.cid)) active

-- the id, and the negations whose justification holds it
abbrev pub gone_with : List Active → Cid → List Cid
gone_with active cid = cid ∷ cids_of (filter (λ a. is_named a.justification cid) active)

-- the pairs that the one log has and the other has not
abbrev pub lost_pairs : List Removal → List Removal → List Pair
lost_pairs log left = filter (λ p. not (is_among (log_pairs left) p.var p.value)) (log_pairs log)

-- the variables of pairs
abbrev pub vars_of : List Pair → List ℕ
vars_of pairs = map (λ p. p.var) pairs

-- these constraints are active and pending no longer, the log is what is left of it, and every active constraint over
-- a restored variable is pending
abbrev pub withdrawn : EngineState → List Cid → List Removal → EngineState
withdrawn s gone left = let active = without_cids gone s.active in
    record s { active = active; log = left; pending = woken active s.pending (vars_of (lost_pairs s.log left)) }

-- all of these constraints go, and with them exactly the removals that name one of them
pub record WithdrawsAll (s : EngineState) (gone : List Cid) (t : EngineState) : Type 0 where
  pub left : List Removal
  pub loses : Loses s.log gone s.log left
  pub after : t ≡ withdrawn s gone left

-- the constraint goes, and with it each negation whose justification holds it
abbrev pub Withdraws : EngineState → Cid → EngineState → Type 0
Withdraws s cid t = WithdrawsAll s (gone_with s.active cid) t

-- ---- removing

-- the removal of the pair by the constraint, for the reason that is kept
abbrev pub removal_of : EngineState → Active → Pair → Removal
removal_of s a p = record { pair = p; by = a.cid; reasons = reason s.initial (present s) a.con p.var p.value }

-- the log has one more removal, and every active constraint over its variable is pending
abbrev pub removed : EngineState → Active → Pair → EngineState
removed s a p = record s { log = s.log ++ removal_of s a p ∷ []; pending = woken s.active s.pending (p.var ∷ []) }

-- an active constraint takes out a present value that lacks support in it, while no domain is empty
pub record Removes (s : EngineState) (a : Active) (p : Pair) (t : EngineState) : Type 0 where
  pub posted : Contains s.active a
  pub filled : AllFilled (present s)
  pub has : Has (present s) p.var p.value
  pub lacks : LacksSupport (present s) a.con p.var p.value
  pub after : t ≡ removed s a p

-- ---- between two events

-- a pending constraint that is closed in the present domains stops being pending
abbrev pub calmed : EngineState → Cid → EngineState
calmed s cid = record s { pending = without_cid cid s.pending }

pub record Calms (s : EngineState) (a : Active) (t : EngineState) : Type 0 where
  pub posted : Contains s.active a
  pub pending : Contains s.pending a.cid
  pub closed : IsClosedBy a.con (present s)
  pub after : t ≡ calmed s a.cid

-- one more variable is declared, with all its values
pub record Declares (s : EngineState) (values : List ℤ) (t : EngineState) : Type 0 where
  pub ascend : Ascends values
  pub after : t ≡ record s { initial = s.initial ++ values ∷ [] }

-- ---- runs

-- the three kinds of event
pub data Event : Type 0 where
  Post : (constraint : Active) → Event
  Withdraw : (cid : Cid) → Event
  Remove : (constraint : Active) (pair : Pair) → Event

-- an event, or what may be between two of them
pub data Step : Type 0 where
  Happens : (event : Event) → Step
  Calm : (constraint : Active) → Step
  Declare : (values : List ℤ) → Step

-- the event is allowed and leads from s to t
abbrev pub Leads : EngineState → Event → EngineState → Type 0
Leads s (Post a) t = Posts s a t
Leads s (Withdraw cid) t = Withdraws s cid t
Leads s (Remove a p) t = Removes s a p t

-- the step is allowed and leads from s to t
abbrev pub StepLeads : EngineState → Step → EngineState → Type 0
StepLeads s (Happens event) t = Leads s event t
StepLeads s (Calm a) t = Calms s a t
StepLeads s (Declare values) t = Declares s values t

-- the steps, one after another, lead from s to t
abbrev pub Runs : EngineState → List Step → EngineState → Type 0
Runs s [] t = t ≡ s
Runs s (step ∷ steps) t = (m : EngineState) × StepLeads s step m × Runs m steps t

-- the events among the steps
abbrev pub events_of : List Step → List Event
events_of [] = []
events_of (Happens event ∷ steps) = event ∷ events_of steps
events_of (Calm a ∷ steps) = events_of steps
events_of (Declare values ∷ steps) = events_of steps
