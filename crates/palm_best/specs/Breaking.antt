-- Where want of memory may break a minimization off.
use Rattle.std.specs.Prelude.{◌≡◌, ℕ, ℤ, ◌<◌, Bool, List, [], ◌∷◌, ◌++◌, length}
use Rattle.palm_base.specs.declared.terms.Cid.{Cid}
use Rattle.palm_base.specs.declared.terms.Pair.{Pair}
use Rattle.palm_model.specs.Event.{Posts, WithdrawsAll}
use Rattle.palm_model.specs.State.{EngineState, present}
use Rattle.palm_model.specs.Trial.{listed}
use Rattle.palm_engine.specs.Settling.{Filters}
use Rattle.palm_search.specs.declared.turn.Turn.{Turn}
use Rattle.palm_search.specs.declared.turn.Turn.TheVariants.{Undo}
use Rattle.palm_search.specs.Search.{IsFound, own_cids}
use Rattle.palm_search.specs.Turns.{SearchState, Takes, Undoes}
use Rattle.palm_best.specs.Cuts.{cut_of, is_own}
use Rattle.palm_best.specs.Ends.{HasMoved}
use Rattle.palm_best.specs.Moves.{BestState}

-- a minimization was broken off after these turns: in the first settling, before the next move, within an undoing, or in the
-- settling after a turn or after a cut
pub data IsCutOff (guided ordered : Bool) (target budget : ℕ) (s : EngineState) (turns : List Turn) (t : EngineState) : Type 0 where
  in_first_settling : turns ≡ [] → Filters s t → IsCutOff guided ordered target budget s turns t
  before_move : (m : BestState) → HasMoved guided ordered target budget s turns m → t ≡ m.search.engine → IsCutOff guided ordered target budget s turns t
  in_undoing : (m : BestState) (next : SearchState) (before : List Turn) (gone : Pair) (conflict : List Cid) (undoes : Undoes m.search gone conflict next)
      → HasMoved guided ordered target budget s before m → length before < budget → turns ≡ before ++ Undo gone conflict ∷ [] → t ≡ undoes.middle → IsCutOff guided ordered target budget s turns t
  after_turn : (m : BestState) (next : SearchState) (before : List Turn) (turn : Turn) → HasMoved guided ordered target budget s before m → length before < budget → Takes guided m.search turn next
      → turns ≡ before ++ turn ∷ [] → Filters next.engine t → IsCutOff guided ordered target budget s turns t
  after_cut : (m : BestState) (middle : EngineState) (values : List ℤ) → HasMoved guided ordered target budget s turns m → IsFound (present m.search.engine) values
      → Posts m.search.engine (cut_of target m.cuts (listed values target)) middle → Filters middle t → IsCutOff guided ordered target budget s turns t

-- and all its decisions, negations and cuts are withdrawn; the settling after that may have begun
pub record BreaksOff (guided ordered : Bool) (target budget : ℕ) (s : EngineState) (turns : List Turn) (t : EngineState) : Type 0 where
  pub cut : EngineState
  pub is : IsCutOff guided ordered target budget s turns cut
  pub middle : EngineState
  pub withdraws : WithdrawsAll cut (own_cids is_own cut.active) middle
  pub filters : Filters middle t
