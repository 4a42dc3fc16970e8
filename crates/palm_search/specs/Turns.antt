-- The turns of a search, each followed by a settling. They speak of no list of users: other events may come between turns.
use Rattle.std.specs.Prelude.{◌≡◌, ℕ, ℤ, ⊤, ◌<◌, ◌≤◌, ◌≤ℤ◌, ◌⊎◌, Bool, true, false, List, [], ◌∷◌, ◌++◌, length, Contains, None}
use Rattle.palm_base.specs.declared.terms.Pair.{Pair}
use Rattle.palm_base.specs.declared.terms.Cid.{Cid}
use Rattle.palm_base.specs.declared.terms.Cid.TheVariants.{Decide, Not, User}
use Rattle.palm_model.specs.Domains.{Domains, Has, values_of}
use Rattle.palm_model.specs.State.{EngineState, IsEmptyAt, AllFilled, present, without_cid, decision_of, negation_of}
use Rattle.palm_model.specs.Event.{Posts, Withdraws}
use Rattle.palm_model.specs.Conflict.{IsFlatConflict}
use Rattle.palm_engine.specs.Settling.{Revision, Settles, FitsOrder}
use Rattle.palm_search.specs.declared.turn.Pick.{Pick}
use Rattle.palm_search.specs.declared.turn.Pick.TheVariants.{NoGuide, Nothing, Asked}
use Rattle.palm_search.specs.declared.turn.Turn.{Turn}
use Rattle.palm_search.specs.declared.turn.Turn.TheVariants.{Decide as TurnDecide, Undo as TurnUndo}

-- an engine, and the decisions in the order in which they were taken
pub record SearchState : Type 0 where
  pub engine : EngineState
  pub decisions : List Pair

-- ---- decisions

-- the variable exists and has at least two values
pub record IsOpen (d : Domains) (x : ℕ) : Type 0 where
  pub exists : x < length d
  pub two : 2 ≤ length (values_of d x)

-- a pick that may be taken: a value of a variable that has at least two
pub record IsLawful (d : Domains) (p : Pair) : Type 0 where
  pub is_open : IsOpen d p.var
  pub has : Has d p.var p.value

-- why a pick may not be taken: there is no such variable, it has fewer than two values, or it lacks the value
pub data IsUnlawful (d : Domains) (p : Pair) : Type 0 where
  no_variable : length d ≤ p.var → IsUnlawful d p
  few_values : length (values_of d p.var) < 2 → IsUnlawful d p
  no_value : (Has d p.var p.value → ⊥) → IsUnlawful d p

-- the lowest variable with at least two values, and its least value
pub record IsDefault (d : Domains) (p : Pair) : Type 0 where
  pub is_open : IsOpen d p.var
  pub lowest : (y : ℕ) → IsOpen d y → p.var ≤ y
  pub has : Has d p.var p.value
  pub least : (w : ℤ) → Has d p.var w → p.value ≤ℤ w

-- the pair that is decided after a pick: the pick where it is lawful, and the default otherwise
abbrev pub IsDecided : Domains → Pick → Pair → Type 0
IsDecided d NoGuide p = IsDefault d p
IsDecided d Nothing p = IsDefault d p
IsDecided d (Asked q) p = (IsLawful d q × (p ≡ q)) ⊎ (IsUnlawful d q × IsDefault d p)

-- a pick is recorded as none exactly where no guide is chosen
abbrev pub FitsGuide : Bool → Pick → Type 0
FitsGuide false NoGuide = ⊤
FitsGuide false Nothing = ⊥
FitsGuide false (Asked q) = ⊥
FitsGuide true NoGuide = ⊥
FitsGuide true Nothing = ⊤
FitsGuide true (Asked q) = ⊤

-- while no domain is empty, the pair is decided: it is the last of the decisions, and posted
pub record Decides (guided : Bool) (s : SearchState) (p : Pair) (pick : Pick) (t : SearchState) : Type 0 where
  pub filled : AllFilled (present s.engine)
  pub fits : FitsGuide guided pick
  pub decided : IsDecided (present s.engine) pick p
  pub posts : Posts s.engine (decision_of p) t.engine
  pub decisions : t.decisions ≡ s.decisions ++ p ∷ []

-- ---- undoing

-- a domain is empty, the lowest one where there are several, and these are the ids of its flat conflict
pub record HasFlatConflict (s : EngineState) (conflict : List Cid) : Type 0 where
  pub var : ℕ
  pub empty : IsEmptyAt (present s) var
  pub lowest : (y : ℕ) → IsEmptyAt (present s) y → var ≤ y
  pub is : IsFlatConflict s var conflict

-- the pair is the latest of the decisions that the ids hold, and these decisions are left without it, in order
pub record IsLatest (decisions : List Pair) (cids : List Cid) (gone : Pair) (left : List Pair) : Type 0 where
  pub earlier : List Pair
  pub later : List Pair
  pub are : decisions ≡ earlier ++ gone ∷ later
  pub held : Contains cids (Decide gone.var)
  pub latest : (p : Pair) → Contains later p → Contains cids (Decide p.var) → ⊥
  pub others : left ≡ earlier ++ later

-- the latest decision of the flat conflict is withdrawn, and its negation posted with the rest as justification
pub record Undoes (s : SearchState) (gone : Pair) (conflict : List Cid) (t : SearchState) : Type 0 where
  pub flat : HasFlatConflict s.engine conflict
  pub latest : IsLatest s.decisions conflict gone t.decisions
  pub middle : EngineState
  pub withdraws : Withdraws s.engine (Decide gone.var) middle
  pub posts : Posts middle (negation_of gone (without_cid (Decide gone.var) conflict)) t.engine

-- the variables of the decisions among the ids, which the guide is told
abbrev pub decided_vars : List Cid → List ℕ
decided_vars [] = []
decided_vars (Decide x ∷ cids) = x ∷ decided_vars cids
decided_vars (Not p ∷ cids) = decided_vars cids
decided_vars (User n ∷ cids) = decided_vars cids

-- ---- turns

-- the turn is allowed and leads from s to t
abbrev pub Takes : Bool → SearchState → Turn → SearchState → Type 0
Takes guided s (TurnDecide pair pick) t = Decides guided s pair pick t
Takes guided s (TurnUndo gone conflict) t = Undoes s gone conflict t

-- the engine settles, and the decisions stay
pub record SettlesAfter (ordered : Bool) (s t : SearchState) : Type 0 where
  pub revisions : List Revision
  pub fits : FitsOrder ordered revisions
  pub settles : Settles None s.engine revisions t.engine
  pub decisions : t.decisions ≡ s.decisions

-- the turn and the settling after it
pub record Follows (guided ordered : Bool) (s : SearchState) (turn : Turn) (t : SearchState) : Type 0 where
  pub middle : SearchState
  pub takes : Takes guided s turn middle
  pub settles : SettlesAfter ordered middle t

-- the turns, one after another, lead from s to t
abbrev pub Turns : Bool → Bool → SearchState → List Turn → SearchState → Type 0
Turns guided ordered s [] t = t ≡ s
Turns guided ordered s (turn ∷ turns) t = (m : SearchState) × Follows guided ordered s turn m × Turns guided ordered m turns t
