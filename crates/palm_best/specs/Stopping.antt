-- What a guide and an order were asked and told along a minimization that want of memory broke off.
use Rattle.std.specs.Prelude.{◌≡◌, ℕ, ℤ, ◌<◌, Option, is_some, List, [], ◌∷◌, ◌++◌, length}
use Rattle.palm_base.specs.declared.terms.Cid.{Cid}
use Rattle.palm_base.specs.declared.terms.Pair.{Pair}
use Rattle.palm_model.specs.Event.{Posts, WithdrawsAll}
use Rattle.palm_model.specs.State.{EngineState, present}
use Rattle.palm_model.specs.Trial.{listed}
use Rattle.palm_engine.specs.Following.{Hearing, LeadsAlong}
use Rattle.palm_search.specs.declared.turn.Turn.{Turn}
use Rattle.palm_search.specs.declared.turn.Turn.TheVariants.{Undo}
use Rattle.palm_search.specs.Following.{Moment}
use Rattle.palm_search.specs.Search.{IsFound, own_cids}
use Rattle.palm_search.specs.Stopping.{OrderStops}
use Rattle.palm_search.specs.Turns.{SearchState, Takes, Undoes}
use Rattle.palm_best.specs.declared.best.Best.{Best}
use Rattle.palm_best.specs.Cuts.{cut_of, is_own}
use Rattle.palm_best.specs.Ends.{HasMoved, opened}
use Rattle.palm_best.specs.Following.{BestRunBy, moved_hearings, moves_moments}
use Rattle.palm_best.specs.Moves.{BestState}

-- the moves so far, of which the turns led the guide, and the settlings the order
pub record HasMovedBy {G O : Type 0} (guiding : Moment → Option G → Option G → Type 0) (ordering : Hearing → Option O → Option O → Type 0) (guide_first guide_last : Option G) (order_first order_last : Option O)
    (target budget : ℕ) (s : EngineState) (turns : List Turn) (t : BestState) : Type 0 where
  pub moved : HasMoved (is_some guide_first) (is_some order_first) target budget s turns t
  pub guide : LeadsAlong guiding (moves_moments (is_some guide_first) (is_some order_first) target (opened moved.start) moved.moves t moved.taken) guide_first guide_last
  pub order : LeadsAlong ordering (moved_hearings (is_some guide_first) (is_some order_first) target budget s turns t moved) order_first order_last

-- a minimization was broken off after these turns, as IsCutOff says it; its moves and the last step led the guide and the order so far
pub data IsCutOffBy {G O : Type 0} (guiding : Moment → Option G → Option G → Type 0) (stopping : SearchState → Option G → Option G → Type 0) (ordering : Hearing → Option O → Option O → Type 0) (answering : List Cid → ℕ → Option O → Option O → Type 0)
    (guide_first guide_last : Option G) (order_first order_last : Option O) (target budget : ℕ) (s : EngineState) (turns : List Turn) (t : EngineState) : Type 0 where
  by_first_settling : turns ≡ [] → guide_last ≡ guide_first → OrderStops answering ordering order_first order_last s t
      → IsCutOffBy guiding stopping ordering answering guide_first guide_last order_first order_last target budget s turns t
  by_next_move : (m : BestState) (guide : Option G) → HasMovedBy guiding ordering guide_first guide order_first order_last target budget s turns m → t ≡ m.search.engine → stopping m.search guide guide_last
      → IsCutOffBy guiding stopping ordering answering guide_first guide_last order_first order_last target budget s turns t
  by_undoing : (m : BestState) (next : SearchState) (before : List Turn) (gone : Pair) (conflict : List Cid) (undoes : Undoes m.search gone conflict next) (guide : Option G)
      → HasMovedBy guiding ordering guide_first guide order_first order_last target budget s before m → length before < budget → turns ≡ before ++ Undo gone conflict ∷ [] → t ≡ undoes.middle
      → guiding (record { state = m.search; turn = Undo gone conflict }) guide guide_last → IsCutOffBy guiding stopping ordering answering guide_first guide_last order_first order_last target budget s turns t
  by_turn : (m : BestState) (next : SearchState) (before : List Turn) (turn : Turn) (guide : Option G) (order : Option O) → HasMovedBy guiding ordering guide_first guide order_first order target budget s before m → length before < budget
      → Takes (is_some guide_first) m.search turn next → turns ≡ before ++ turn ∷ [] → guiding (record { state = m.search; turn = turn }) guide guide_last → OrderStops answering ordering order order_last next.engine t
      → IsCutOffBy guiding stopping ordering answering guide_first guide_last order_first order_last target budget s turns t
  by_cut : (m : BestState) (middle : EngineState) (values : List ℤ) (order : Option O) → HasMovedBy guiding ordering guide_first guide_last order_first order target budget s turns m → IsFound (present m.search.engine) values
      → Posts m.search.engine (cut_of target m.cuts (listed values target)) middle → OrderStops answering ordering order order_last middle t
      → IsCutOffBy guiding stopping ordering answering guide_first guide_last order_first order_last target budget s turns t

-- the run was broken off, and all its decisions, negations and cuts are withdrawn; or it ended, and the settling after that was
-- broken off
pub data BreaksOffBy {G O : Type 0} (guiding : Moment → Option G → Option G → Type 0) (stopping : SearchState → Option G → Option G → Type 0) (ordering : Hearing → Option O → Option O → Type 0) (answering : List Cid → ℕ → Option O → Option O → Type 0)
    (guide_first guide_last : Option G) (order_first order_last : Option O) (target budget : ℕ) (s : EngineState) (turns : List Turn) (t : EngineState) : Type 0 where
  by_run : (cut : EngineState) → IsCutOffBy guiding stopping ordering answering guide_first guide_last order_first order_last target budget s turns cut → WithdrawsAll cut (own_cids is_own cut.active) t
      → BreaksOffBy guiding stopping ordering answering guide_first guide_last order_first order_last target budget s turns t
  by_last_settling : (last : BestState) (best : Best) (middle : EngineState) (order : Option O) → BestRunBy guiding ordering guide_first guide_last order_first order target budget s turns best last
      → WithdrawsAll last.search.engine (own_cids is_own last.search.engine.active) middle → OrderStops answering ordering order order_last middle t
      → BreaksOffBy guiding stopping ordering answering guide_first guide_last order_first order_last target budget s turns t
