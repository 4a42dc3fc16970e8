-- What a search is seen as, and what its calls do to it and to the engine.
use Rattle.std.specs.Prelude.{◌≡◌, ℕ, Bool, List, [], ◌∷◌, ◌++◌, Contains, Some, remove, slice_get}
use Rattle.palm_base.specs.declared.terms.Pair.{Pair}
use Rattle.palm_base.specs.declared.terms.Cid.{Cid}
use Rattle.palm_base.specs.declared.terms.Cid.TheVariants.{Decide}
use Rattle.palm_model.specs.State.{EngineState}
use Rattle.palm_model.specs.Event.{Withdraws, WithdrawsAll}
use Rattle.palm_search.specs.declared.turn.Turn.{Turn}
use Rattle.palm_search.specs.declared.turn.Turn.TheVariants.{Undo}
use Rattle.palm_search.specs.Turns.{SearchState, Takes}
use Rattle.palm_search.specs.Search.{own_cids}

-- the decisions in the order in which they were taken, and the turns so far
pub record SearchView : Type 0 where
  pub decisions : List Pair
  pub journal : List Turn

-- an engine with the decisions of a search
abbrev pub search_state : EngineState → SearchView → SearchState
search_state engine search = record { engine = engine; decisions = search.decisions }

-- the turn is taken, and it is the last one of the journal
pub record TakesTurn (guided : Bool) (turn : Turn) (s : EngineState) (before : SearchView) (t : EngineState) (after : SearchView) : Type 0 where
  pub takes : Takes guided (search_state s before) turn (search_state t after)
  pub journal : after.journal ≡ before.journal ++ turn ∷ []

-- the decision at the place is among the ids
pub record HoldsDecision (decisions : List Pair) (cids : List Cid) (place : ℕ) : Type 0 where
  pub pair : Pair
  pub stands : slice_get decisions place ≡ Some pair
  pub held : Contains cids (Decide pair.var)

-- the decision at the place is withdrawn, and those after it move forward; the turn is the last one of the journal
pub record TakesBack (conflict : List Cid) (place : ℕ) (s : EngineState) (before : SearchView) (t : EngineState) (after : SearchView) : Type 0 where
  pub gone : Pair
  pub stood : slice_get before.decisions place ≡ Some gone
  pub withdraws : Withdraws s (Decide gone.var) t
  pub decisions : after.decisions ≡ remove before.decisions place
  pub journal : after.journal ≡ before.journal ++ Undo gone conflict ∷ []

-- some constraints that are a search's own were withdrawn, and no others
pub record LetsGo (own : Cid → Bool) (s t : EngineState) : Type 0 where
  pub gone : List Cid
  pub among : (c : Cid) → Contains gone c → Contains (own_cids own s.active) c
  pub withdraws : WithdrawsAll s gone t
