-- What a guide and an order are asked and told along a minimization.
use Rattle.std.specs.Prelude.{◌≡◌, ℕ, Bool, is_some, List, [], ◌∷◌, ◌++◌, Option}
use Rattle.palm_model.specs.State.{EngineState}
use Rattle.palm_engine.specs.Following.{Hearing, LeadsAlong}
use Rattle.palm_search.specs.declared.turn.Turn.{Turn}
use Rattle.palm_search.specs.Following.{Moment, closing_hearings, settling_hearings}
use Rattle.palm_search.specs.Search.{begun}
use Rattle.palm_search.specs.Turns.{SearchState}
use Rattle.palm_best.specs.declared.best.Best.{Best}
use Rattle.palm_best.specs.Cuts.{is_own}
use Rattle.palm_best.specs.Ends.{BestRun, HasMoved, Minimizes, opened}
use Rattle.palm_best.specs.Moves.{AllMoves, BestState, Move, Moves}
use Rattle.palm_best.specs.Moves.Move.{Cut, Taken}

-- a turn is a moment, with the state in which it was taken; a cut is none
abbrev pub moment_of : SearchState → Move → List Moment
moment_of s (Taken turn) = record { state = s; turn = turn } ∷ []
moment_of s (Cut values) = []

-- the moments of the moves
abbrev pub moves_moments : (guided ordered : Bool) (target : ℕ) (s : BestState) (moves : List Move) (t : BestState) → AllMoves guided ordered target s moves t → List Moment
moves_moments guided ordered target s [] t taken = []
moves_moments guided ordered target s (move ∷ moves) t taken = moment_of s.search move ++ moves_moments guided ordered target taken.0 moves t taken.2

-- what is heard of the settling after a move
abbrev pub move_hearings : (guided ordered : Bool) (target : ℕ) (s : BestState) (move : Move) (t : BestState) → Moves guided ordered target s move t → List Hearing
move_hearings guided ordered target s (Taken turn) t advances = settling_hearings ordered advances.follows.middle t.search advances.follows.settles
move_hearings guided ordered target s (Cut values) t improves = settling_hearings ordered improves.middle t.search improves.settles

-- of the settlings after the moves
abbrev pub moves_hearings : (guided ordered : Bool) (target : ℕ) (s : BestState) (moves : List Move) (t : BestState) → AllMoves guided ordered target s moves t → List Hearing
moves_hearings guided ordered target s [] t taken = []
moves_hearings guided ordered target s (move ∷ moves) t taken =
    move_hearings guided ordered target s move taken.0 taken.1 ++ moves_hearings guided ordered target taken.0 moves t taken.2

-- of the first settling and of those after the moves
abbrev pub moved_hearings : (guided ordered : Bool) (target budget : ℕ) (s : EngineState) (turns : List Turn) (t : BestState) → HasMoved guided ordered target budget s turns t → List Hearing
moved_hearings guided ordered target budget s turns t moved =
    settling_hearings ordered (begun s) moved.start moved.settles ++ moves_hearings guided ordered target (opened moved.start) moved.moves t moved.taken

-- a run, whose turns led the guide, and whose settlings led the order, from what they were first to what they are at last
pub record BestRunBy {G O : Type 0} (guiding : Moment → Option G → Option G → Type 0) (ordering : Hearing → Option O → Option O → Type 0) (guide_first guide_last : Option G) (order_first order_last : Option O)
    (target budget : ℕ) (s : EngineState) (turns : List Turn) (best : Best) (t : BestState) : Type 0 where
  pub run : BestRun (is_some guide_first) (is_some order_first) target budget s turns best t
  pub guide : LeadsAlong guiding (moves_moments (is_some guide_first) (is_some order_first) target (opened run.moved.start) run.moved.moves t run.moved.taken) guide_first guide_last
  pub order : LeadsAlong ordering (moved_hearings (is_some guide_first) (is_some order_first) target budget s turns t run.moved) order_first order_last

-- the same of the whole run, the last settling included
pub record MinimizesBy {G O : Type 0} (guiding : Moment → Option G → Option G → Type 0) (ordering : Hearing → Option O → Option O → Type 0) (guide_first guide_last : Option G) (order_first order_last : Option O)
    (target budget : ℕ) (s : EngineState) (turns : List Turn) (best : Best) (t : EngineState) : Type 0 where
  pub minimizes : Minimizes (is_some guide_first) (is_some order_first) target budget s turns best t
  pub guide : LeadsAlong guiding (moves_moments (is_some guide_first) (is_some order_first) target (opened minimizes.run.moved.start) minimizes.run.moved.moves minimizes.last minimizes.run.moved.taken) guide_first guide_last
  pub order : LeadsAlong ordering (moved_hearings (is_some guide_first) (is_some order_first) target budget s turns minimizes.last minimizes.run.moved
      ++ closing_hearings is_own (is_some order_first) minimizes.last.search.engine t minimizes.closes) order_first order_last

-- the run has ended so in this search, and its turns and settlings led the guide and the order
pub record HasRunBy {G O : Type 0} (guiding : Moment → Option G → Option G → Type 0) (ordering : Hearing → Option O → Option O → Type 0) (guide_first guide_last : Option G) (order_first order_last : Option O)
    (target budget : ℕ) (s : EngineState) (turns : List Turn) (best : Best) (last : SearchState) : Type 0 where
  pub state : BestState
  pub search : state.search ≡ last
  pub by : BestRunBy guiding ordering guide_first guide_last order_first order_last target budget s turns best state
