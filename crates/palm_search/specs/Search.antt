-- The run of mac-dbt: a settling, turns, and the first end that holds after a settling.
use Rattle.std.specs.Prelude.{◌≡◌, ℕ, suc, ℤ, ◌≤◌, ⊤, Bool, not, List, [], ◌∷◌, length, map, filter, Contains, None}
use Rattle.palm_base.specs.declared.terms.Cid.{Cid}
use Rattle.palm_base.specs.declared.terms.Cid.TheVariants.{Decide}
use Rattle.palm_model.specs.Domains.{Assignment, Domains}
use Rattle.palm_model.specs.Closure.{IsSolution}
use Rattle.palm_model.specs.Log.{Active, IsActive, Named, cids_of}
use Rattle.palm_model.specs.State.{EngineState, AllFilled, present, is_user}
use Rattle.palm_model.specs.Event.{WithdrawsAll}
use Rattle.palm_engine.specs.Settling.{Revision, Settles, FitsOrder}
use Rattle.palm_search.specs.declared.ending.SearchEnd.{SearchEnd}
use Rattle.palm_search.specs.declared.ending.SearchEnd.TheVariants.{Found, NoSolution, Spent}
use Rattle.palm_search.specs.declared.turn.Pick.{Pick}
use Rattle.palm_search.specs.declared.turn.Turn.{Turn}
use Rattle.palm_search.specs.declared.turn.Turn.TheVariants.{Decide as TurnDecide, Undo as TurnUndo}
use Rattle.palm_search.specs.Turns.{SearchState, IsOpen, HasFlatConflict, SettlesAfter, Turns, decided_vars}

-- ---- ends

-- a domain is empty and its flat conflict holds no decision; the users are those of the flat conflict
pub record HasNoSolution (s : EngineState) (users : List Cid) : Type 0 where
  pub conflict : List Cid
  pub flat : HasFlatConflict s conflict
  pub undecided : decided_vars conflict ≡ []
  pub are : users ≡ filter is_user conflict

-- every domain has exactly one value, and these are the values
abbrev pub IsFound : Domains → List ℤ → Type 0
IsFound d values = d ≡ map (λ v. v ∷ []) values

-- the run could go on: a decision could be taken, or one of the flat conflict undone
pub data GoesOn (s : EngineState) : Type 0 where
  could_decide : (x : ℕ) → AllFilled (present s) → IsOpen (present s) x → GoesOn s
  could_undo : (x : ℕ) (conflict : List Cid) → HasFlatConflict s conflict → Contains conflict (Decide x) → GoesOn s

-- the run ends so after this settling, with so many turns taken
abbrev pub EndsWith : ℕ → ℕ → EngineState → SearchEnd → Type 0
EndsWith budget count s (NoSolution users) = HasNoSolution s users
EndsWith budget count s (Found values) = IsFound (present s) values
EndsWith budget count s (Spent turns) = (turns ≡ count) × (count ≡ budget) × GoesOn s

-- the users are active, and have no common solution
pub record AreUnsolved (s : EngineState) (users : List Cid) : Type 0 where
  pub active : (c : Cid) → Contains users c → IsActive s.active c
  pub none : (a : Assignment) → IsSolution s.initial (Named s.active (Contains users)) a → ⊥

-- ---- runs

-- no decision was taken yet
abbrev pub begun : EngineState → SearchState
begun s = record { engine = s; decisions = [] }

-- one settling, and turns within the budget, lead from s to t, where the run ends
pub record SearchRun (guided ordered : Bool) (budget : ℕ) (s : EngineState) (turns : List Turn) (end : SearchEnd) (t : SearchState) : Type 0 where
  pub start : SearchState
  pub settles : SettlesAfter ordered (begun s) start
  pub taken : Turns guided ordered start turns t
  pub within : length turns ≤ budget
  pub ends : EndsWith budget (length turns) t.engine end

-- a search's own constraints: its decisions and negations
abbrev pub of_search : Cid → Bool
of_search c = not (is_user c)

-- the ids of all active constraints that are a search's own
abbrev pub own_cids : (Cid → Bool) → List Active → List Cid
own_cids own active = cids_of (filter (λ a. own a.cid) active)

abbrev pub search_cids : List Active → List Cid
search_cids active = own_cids of_search active

-- after the end all constraints that are a search's own are withdrawn, and the engine settles once more
pub record Closes (own : Cid → Bool) (ordered : Bool) (s t : EngineState) : Type 0 where
  pub middle : EngineState
  pub withdraws : WithdrawsAll s (own_cids own s.active) middle
  pub revisions : List Revision
  pub fits : FitsOrder ordered revisions
  pub settles : Settles None middle revisions t

-- the whole search, from the state at the call to the state at the answer
pub record Searches (guided ordered : Bool) (budget : ℕ) (s : EngineState) (turns : List Turn) (end : SearchEnd) (t : EngineState) : Type 0 where
  pub last : SearchState
  pub run : SearchRun guided ordered budget s turns end last
  pub closes : Closes of_search ordered last.engine t

-- the k-th decision, counted from 0, was taken after the pick f k
abbrev pub IsPicked : (ℕ → Pick) → List Turn → Type 0
IsPicked f [] = ⊤
IsPicked f (TurnDecide pair pick ∷ turns) = (pick ≡ f 0) × IsPicked (λ k. f (suc k)) turns
IsPicked f (TurnUndo gone conflict ∷ turns) = IsPicked f turns

-- a search from s with these picks, and how it ends
pub record SearchesTo (guided ordered : Bool) (f : ℕ → Pick) (budget : ℕ) (s : EngineState) : Type 0 where
  pub turns : List Turn
  pub end : SearchEnd
  pub state : EngineState
  pub searches : Searches guided ordered budget s turns end state
  pub picked : IsPicked f turns

-- two searches are one
pub record IsSameSearch (turns : List Turn) (end : SearchEnd) (t : EngineState) (others : List Turn) (other : SearchEnd) (u : EngineState) : Type 0 where
  pub turns_same : turns ≡ others
  pub end_same : end ≡ other
  pub state_same : t ≡ u
