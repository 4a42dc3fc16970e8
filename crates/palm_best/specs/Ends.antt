-- How a minimization ends, and the whole of it.
use Rattle.std.specs.Prelude.{◌≡◌, ℕ, ◌≤◌, Bool, not, None, Some, List, length, filter}
use Rattle.palm_base.specs.declared.terms.Cid.{Cid}
use Rattle.palm_model.specs.State.{EngineState}
use Rattle.palm_search.specs.declared.ending.SearchEnd.TheVariants.{Spent as SearchSpent}
use Rattle.palm_search.specs.declared.turn.Turn.{Turn}
use Rattle.palm_search.specs.Search.{Closes, EndsWith, HasNoSolution, begun}
use Rattle.palm_search.specs.Turns.{SearchState, SettlesAfter}
use Rattle.palm_best.specs.declared.best.Best.{Best}
use Rattle.palm_best.specs.declared.best.Best.TheVariants.{Least, NoSolution, Spent}
use Rattle.palm_best.specs.Cuts.{is_cut, is_own}
use Rattle.palm_best.specs.Moves.{AllMoves, BestState, Move, turns_of}

-- ---- ends

-- a domain is empty and its flat conflict holds no decision; the users are those of the flat conflict that are no cuts
pub record IsProved (s : EngineState) (users : List Cid) : Type 0 where
  pub conflict : List Cid
  pub none : HasNoSolution s conflict
  pub are : users ≡ filter (λ c. not (is_cut c)) conflict

-- the run ends so after this settling, with so many turns taken
abbrev pub EndsBest : ℕ → ℕ → BestState → Best → Type 0
EndsBest budget count s (Least values users) = (s.incumbent ≡ Some values) × IsProved s.search.engine users
EndsBest budget count s (NoSolution users) = (s.incumbent ≡ None) × HasNoSolution s.search.engine users
EndsBest budget count s (Spent turns best) = (best ≡ s.incumbent) × EndsWith budget count s.search.engine (SearchSpent turns)

-- ---- runs

-- no values and no cut yet
abbrev pub opened : SearchState → BestState
opened s = record { search = s; incumbent = None; cuts = 0 }

-- the first settling and these moves, with turns within the budget, lead from s to t
pub record HasMoved (guided ordered : Bool) (target budget : ℕ) (s : EngineState) (turns : List Turn) (t : BestState) : Type 0 where
  pub moves : List Move
  pub journal : turns ≡ turns_of moves
  pub start : SearchState
  pub settles : SettlesAfter ordered (begun s) start
  pub taken : AllMoves guided ordered target (opened start) moves t
  pub within : length turns ≤ budget

-- and there the run ends
pub record BestRun (guided ordered : Bool) (target budget : ℕ) (s : EngineState) (turns : List Turn) (best : Best) (t : BestState) : Type 0 where
  pub moved : HasMoved guided ordered target budget s turns t
  pub ends : EndsBest budget (length turns) t best

-- the whole run, from the state at the call to the state at the answer: at its end all decisions, negations and cuts are
-- withdrawn, and the engine settles once more
pub record Minimizes (guided ordered : Bool) (target budget : ℕ) (s : EngineState) (turns : List Turn) (best : Best) (t : EngineState) : Type 0 where
  pub last : BestState
  pub run : BestRun guided ordered target budget s turns best last
  pub closes : Closes is_own ordered last.search.engine t
