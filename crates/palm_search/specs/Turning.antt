-- What comes after a settling, and what an undoing does.
use Rattle.std.specs.Prelude.{◌≡◌, ℕ, ⊤, ◌<◌, Option, None, Some, List, [], ◌∷◌, ◌++◌, length, Contains, slice_get}
use Rattle.palm_base.specs.declared.terms.Pair.{Pair}
use Rattle.palm_base.specs.declared.terms.Cid.{Cid}
use Rattle.palm_base.specs.declared.terms.Cid.TheVariants.{Decide}
use Rattle.palm_model.specs.Domains.{Domains}
use Rattle.palm_model.specs.State.{EngineState, IsEmptyAt, IsSettled, present}
use Rattle.palm_events.specs.Along.{IsStill}
use Rattle.palm_search.specs.declared.next.Next.{Next}
use Rattle.palm_search.specs.declared.next.Next.TheVariants.{Ended, Decide as NextDecide, Undo as NextUndo}
use Rattle.palm_search.specs.declared.turn.Turn.TheVariants.{Undo as TurnUndo}
use Rattle.palm_search.specs.Calls.{SearchView, HoldsDecision, search_state}
use Rattle.palm_search.specs.Kept.{HasNoneNegated, IsSearching}
use Rattle.palm_search.specs.Search.{EndsWith}
use Rattle.palm_search.specs.Turns.{SearchState, HasFlatConflict, IsOpen, Undoes}

-- ---- after a settling

-- what holds between two turns
pub record IsBetween (s : SearchState) : Type 0 where
  pub searching : IsSearching s
  pub unnegated : HasNoneNegated s
  pub still : IsStill s.engine

-- one domain is empty, and no other
pub record HasOnlyEmpty (d : Domains) : Type 0 where
  pub var : ℕ
  pub empty : IsEmptyAt d var
  pub only : (y : ℕ) → IsEmptyAt d y → y ≡ var

-- the run ends so; or turns are left, and a decision can be taken, or one of this flat conflict undone
abbrev pub IsNext : ℕ → EngineState → SearchView → Next → Type 0
IsNext budget s search (Ended end) = EndsWith budget (length search.journal) s end
IsNext budget s search NextDecide = (length search.journal < budget) × IsSettled s × ((x : ℕ) × IsOpen (present s) x)
IsNext budget s search (NextUndo conflict) = (length search.journal < budget) × HasFlatConflict s conflict × ((x : ℕ) × Contains conflict (Decide x))

-- ---- an undoing

-- the decision at the place is the latest one among the ids
pub record IsLatestAt (decisions : List Pair) (cids : List Cid) (place : ℕ) : Type 0 where
  pub holds : HoldsDecision decisions cids place
  pub latest : (k : ℕ) (p : Pair) → place < k → slice_get decisions k ≡ Some p → Contains cids (Decide p.var) → ⊥

-- the guide is told these variables, where there is one
abbrev pub Hears : {G : Type 0} → (G → List ℕ → List ℕ → Type 0) → (G → List ℕ) → List ℕ → Option G → Option G → Type 0
Hears hears state vars None None = ⊤
Hears hears state vars None (Some after) = ⊥
Hears hears state vars (Some before) None = ⊥
Hears hears state vars (Some before) (Some after) = hears before vars (state after)

-- memory ran out before the undoing for the conflict, or within it: the decision is withdrawn, and its negation is not
-- posted
pub data IsCutUndoing (conflict : List Cid) (s : EngineState) (before : SearchView) (t : EngineState) (after : SearchView) : Type 0 where
  cut_before : t ≡ s → after ≡ before → IsCutUndoing conflict s before t after
  cut_within : (gone : Pair) (next : SearchState) (undoes : Undoes (search_state s before) gone conflict next) → after.journal ≡ before.journal ++ TurnUndo gone conflict ∷ [] → t ≡ undoes.middle → IsCutUndoing conflict s before t after
