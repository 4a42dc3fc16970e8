-- The turns of a run so far, and where want of memory may break it off.
use Rattle.std.specs.Prelude.{◌≡◌, ℕ, ◌<◌, ◌≤◌, Bool, List, [], ◌∷◌, ◌++◌, length}
use Rattle.palm_base.specs.declared.terms.Pair.{Pair}
use Rattle.palm_base.specs.declared.terms.Cid.{Cid}
use Rattle.palm_model.specs.State.{EngineState}
use Rattle.palm_model.specs.Event.{WithdrawsAll}
use Rattle.palm_engine.specs.Settling.{Filters}
use Rattle.palm_search.specs.declared.turn.Turn.{Turn}
use Rattle.palm_search.specs.declared.turn.Turn.TheVariants.{Undo}
use Rattle.palm_search.specs.Search.{begun, search_cids}
use Rattle.palm_search.specs.Turns.{SearchState, SettlesAfter, Takes, Turns, Undoes}

-- one settling, and turns within the budget, lead from s to t
pub record HasTurned (guided ordered : Bool) (budget : ℕ) (s : EngineState) (turns : List Turn) (t : SearchState) : Type 0 where
  pub start : SearchState
  pub settles : SettlesAfter ordered (begun s) start
  pub taken : Turns guided ordered start turns t
  pub within : length turns ≤ budget

-- a run was broken off after these turns: in the first settling, before the next turn, within an undoing, or in the
-- settling after a turn
pub data IsCutOff (guided ordered : Bool) (budget : ℕ) (s : EngineState) (turns : List Turn) (t : EngineState) : Type 0 where
  in_first_settling : turns ≡ [] → Filters s t → IsCutOff guided ordered budget s turns t
  before_turn : (m : SearchState) → HasTurned guided ordered budget s turns m → t ≡ m.engine → IsCutOff guided ordered budget s turns t
  in_undoing : (m next : SearchState) (before : List Turn) (gone : Pair) (conflict : List Cid) (undoes : Undoes m gone conflict next)
      → HasTurned guided ordered budget s before m → length before < budget → turns ≡ before ++ Undo gone conflict ∷ [] → t ≡ undoes.middle → IsCutOff guided ordered budget s turns t
  in_settling : (m next : SearchState) (before : List Turn) (turn : Turn) → HasTurned guided ordered budget s before m → length before < budget → Takes guided m turn next
      → turns ≡ before ++ turn ∷ [] → Filters next.engine t → IsCutOff guided ordered budget s turns t

-- and all its decisions and negations are withdrawn; the settling after that may have begun
pub record BreaksOff (guided ordered : Bool) (budget : ℕ) (s : EngineState) (turns : List Turn) (t : EngineState) : Type 0 where
  pub cut : EngineState
  pub is : IsCutOff guided ordered budget s turns cut
  pub middle : EngineState
  pub withdraws : WithdrawsAll cut (search_cids cut.active) middle
  pub filters : Filters middle t
