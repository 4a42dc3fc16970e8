-- What an engine is seen as, and what a settling says of it.
use Rattle.std.specs.Prelude.{◌≡◌, ℕ, ◌+◌, ◌≤◌, min, Bool, false, List, [], ◌∷◌, length, ◌++◌, Contains, Option, Some, slice_get}
use Rattle.palm_base.specs.declared.terms.Pair.{Pair}
use Rattle.palm_base.specs.declared.limits.TheConstants.{LAST_COUNT}
use Rattle.palm_model.specs.Log.{Active, Removal, log_pairs}
use Rattle.palm_model.specs.State.{EngineState, IsEmptyAt, IsSettled, AllFilled, present}
use Rattle.palm_engine.specs.Settling.{Revision, Revisions, Settles, Walks, IsDue, FitsOrder, IsInLimit, HasReached, index_within, walk_order}
use Rattle.palm_engine.specs.Kept.{state_of}
use Rattle.palm_engine.specs.Work.{most_asked, removers}
use Rattle.palm_engine.specs.declared.filtering.Filtering.{Filtering}
use Rattle.palm_engine.specs.declared.settle.Settle.{Settle}
use Rattle.palm_engine.specs.declared.settle.Settle.TheVariants.{Settled, Empty, Stopped}

-- the state, how many revisions the last settling ran, and how often support was asked for in all settlings so far;
-- both numbers stop at the last count
pub record View : Type 0 where
  pub state : EngineState
  pub revisions : ℕ
  pub checks : ℕ

-- what is seen of what an engine keeps
abbrev pub view_of : Filtering → List Active → ℕ → View
view_of f active revisions = record { state = state_of f active; revisions = revisions; checks = f.checks }

-- a call that is no settling changes neither number
pub record KeepsCounts (before after : View) : Type 0 where
  pub revisions : after.revisions ≡ before.revisions
  pub checks : after.checks ≡ before.checks

-- how a settling of so many revisions ended
abbrev pub EndsAs : Settle → Option ℕ → ℕ → EngineState → Type 0
EndsAs Settled limit count s = IsSettled s
EndsAs (Empty x) limit count s = IsEmptyAt (present s) x
EndsAs Stopped limit count s = HasReached limit count × AllFilled (present s) × (s.pending ≡ [] → ⊥)

-- a settling, with an order object or without one, and how it ended
pub record HasSettled (limit : Option ℕ) (ordered : Bool) (answer : Settle) (before after : View) : Type 0 where
  pub revisions : List Revision
  pub settles : Settles limit before.state revisions after.state
  pub fits : FitsOrder ordered revisions
  pub ends : EndsAs answer limit (length revisions) after.state
  pub counted : after.revisions ≡ min (length revisions) LAST_COUNT

-- a settling whose last revision was interrupted by want of memory. The revisions before it ended, no domain is empty, and
-- the limit allows one more: the constraint at the answered index, the least id where there is no order object. It walked
-- over its pairs up to one that it has to take out, and is pending again
pub record IsInterrupted (limit : Option ℕ) (ordered : Bool) (before after : View) : Type 0 where
  pub revisions : List Revision
  pub middle : EngineState
  pub ended : Revisions before.state revisions middle
  pub fits : FitsOrder ordered revisions
  pub filled : AllFilled (present middle)
  pub within : IsInLimit limit (length revisions + 1)
  pub answer : ℕ
  pub least : ordered ≡ false → answer ≡ 0
  pub owner : Active
  pub posted : Contains middle.active owner
  pub chosen : slice_get middle.pending (index_within answer (length middle.pending)) ≡ Some owner.cid
  pub walked : List Pair
  pub next : Pair
  pub left : List Pair
  pub order : walk_order middle.initial owner.con ≡ walked ++ next ∷ left
  pub removed : ℕ
  pub walk : Walks owner walked middle removed after.state
  pub due : IsDue (present after.state) owner.con next
  pub pending : Contains after.state.pending owner.cid
  pub counted : after.revisions ≡ min (length revisions + 1) LAST_COUNT

-- how often support was asked for on the way from s to t: no more than the constraints that were pending and those over the
-- removed pairs' variables have pairs, and no less than there are constraints of users that took a value out
pub record HasAsked (s t : EngineState) (before after : ℕ) : Type 0 where
  pub gained : List Removal
  pub log : t.log ≡ s.log ++ gained
  pub later : before ≤ after
  pub least : before + length (removers s.active gained) ≤ after
  pub paid : after ≤ before + most_asked s (log_pairs gained)
