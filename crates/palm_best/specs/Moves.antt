-- The moves of a minimization: the turns of mac-dbt, and a cut below the values whenever it finds some.
use Rattle.std.specs.Prelude.{◌≡◌, ℕ, ℤ, ◌+◌, Bool, Option, Some, List, [], ◌∷◌}
use Rattle.palm_model.specs.Event.{Posts}
use Rattle.palm_model.specs.State.{present}
use Rattle.palm_model.specs.Trial.{listed}
use Rattle.palm_search.specs.declared.turn.Turn.{Turn}
use Rattle.palm_search.specs.Search.{IsFound}
use Rattle.palm_search.specs.Turns.{SearchState, SettlesAfter, Follows}
use Rattle.palm_best.specs.Cuts.{cut_of}

-- a search, the best values that were found so far, and how many cuts were posted
pub record BestState : Type 0 where
  pub search : SearchState
  pub incumbent : Option (List ℤ)
  pub cuts : ℕ

-- a turn and the settling after it; the incumbent and the cuts stay
pub record Advances (guided ordered : Bool) (s : BestState) (turn : Turn) (t : BestState) : Type 0 where
  pub follows : Follows guided ordered s.search turn t.search
  pub incumbent : t.incumbent ≡ s.incumbent
  pub cuts : t.cuts ≡ s.cuts

-- each domain has one value: these values are the incumbent, the cut below them is posted, and the engine settles
pub record Improves (ordered : Bool) (target : ℕ) (s : BestState) (values : List ℤ) (t : BestState) : Type 0 where
  pub found : IsFound (present s.search.engine) values
  pub middle : SearchState
  pub posts : Posts s.search.engine (cut_of target s.cuts (listed values target)) middle.engine
  pub decisions : middle.decisions ≡ s.search.decisions
  pub settles : SettlesAfter ordered middle t.search
  pub incumbent : t.incumbent ≡ Some values
  pub cuts : t.cuts ≡ s.cuts + 1

-- a turn, or a cut below these values
pub data Move : Type 0 where
  Taken : (turn : Turn) → Move
  Cut : (values : List ℤ) → Move

abbrev pub Moves : Bool → Bool → ℕ → BestState → Move → BestState → Type 0
Moves guided ordered target s (Taken turn) t = Advances guided ordered s turn t
Moves guided ordered target s (Cut values) t = Improves ordered target s values t

-- the moves, one after another, lead from s to t
abbrev pub AllMoves : Bool → Bool → ℕ → BestState → List Move → BestState → Type 0
AllMoves guided ordered target s [] t = t ≡ s
AllMoves guided ordered target s (move ∷ moves) t = (m : BestState) × Moves guided ordered target s move m × AllMoves guided ordered target m moves t

-- the turns among the moves: a cut is none
abbrev pub turns_of : List Move → List Turn
turns_of [] = []
turns_of (Taken turn ∷ moves) = turn ∷ turns_of moves
turns_of (Cut values ∷ moves) = turns_of moves
