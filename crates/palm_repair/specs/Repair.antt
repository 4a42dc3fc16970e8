-- The turns and the run of decision-repair.
use Rattle.std.specs.Prelude.{◌≡◌, ℕ, ◌+◌, ◌<◌, ◌≤◌, ◌⊎◌, Bool, if◌then◌else◌, List, [], ◌∷◌, ◌++◌, length, map, filter, Contains, nat_eq, slice_index_or}
use Rattle.std.specs.List.{list_any}
use Rattle.palm_base.specs.declared.terms.Pair.{Pair}
use Rattle.palm_base.specs.declared.terms.Cid.{Cid}
use Rattle.palm_base.specs.declared.terms.Cid.TheVariants.{Decide, Not}
use Rattle.palm_model.specs.Log.{cids_of, is_named}
use Rattle.palm_model.specs.State.{EngineState}
use Rattle.palm_model.specs.Event.{Withdraws, WithdrawsAll}
use Rattle.palm_search.specs.declared.turn.Pick.{Pick}
use Rattle.palm_search.specs.declared.turn.Turn.{Turn}
use Rattle.palm_search.specs.declared.turn.Turn.TheVariants.{Decide as TurnDecide, Undo as TurnUndo}
use Rattle.palm_search.specs.Turns.{SearchState, HasFlatConflict, Decides, SettlesAfter, decided_vars}
use Rattle.palm_search.specs.declared.ending.SearchEnd.{SearchEnd}
use Rattle.palm_search.specs.Search.{EndsWith, Closes, IsPicked, begun, of_search}
use Rattle.palm_repair.specs.Posting.{Nogood, Origin, RepairState, PostsAll, nogood_of, active_origins}

-- ---- decisions

-- a decision, and the negations that follow from it
pub record RepairDecides (guided : Bool) (s : RepairState) (p : Pair) (pick : Pick) (t : RepairState) : Type 0 where
  pub middle : SearchState
  pub decides : Decides guided s.search p pick middle
  pub posts : PostsAll (record s { search = middle }) t

-- ---- undoing

-- the weights of the variables from number x on after a conflict over these variables: theirs rise by one
abbrev pub raised_from : ℕ → List ℕ → List ℕ → List ℕ
raised_from x [] vars = []
raised_from x (w ∷ weights) vars = (if list_any (λ y. nat_eq y x) vars then w + 1 else w) ∷ raised_from (x + 1) weights vars

-- the weights of all variables after the conflict
abbrev pub raised : List ℕ → List ℕ → List ℕ
raised weights vars = raised_from 0 weights vars

-- the weight of a variable
abbrev pub weight_of : List ℕ → ℕ → ℕ
weight_of weights x = slice_index_or weights x 0

-- the pair is the one of the greatest weight among the decisions that the ids hold, the latest one of several, and
-- these decisions are left without it, in order
pub record IsHeaviest (weights : List ℕ) (decisions : List Pair) (cids : List Cid) (gone : Pair) (left : List Pair) : Type 0 where
  pub earlier : List Pair
  pub later : List Pair
  pub are : decisions ≡ earlier ++ gone ∷ later
  pub held : Contains cids (Decide gone.var)
  pub heaviest : (p : Pair) → Contains earlier p → Contains cids (Decide p.var) → weight_of weights p.var ≤ weight_of weights gone.var
  pub latest : (p : Pair) → Contains later p → Contains cids (Decide p.var) → weight_of weights p.var < weight_of weights gone.var
  pub others : left ≡ earlier ++ later

-- the origins that are the nogood of this number
abbrev pub negations_from : ℕ → List Origin → List Cid
negations_from number origins = map (λ o. Not o.pair) (filter (λ o. nat_eq o.nogood number) origins)

-- the active ones among the negations whose present posting came from the nogood of this number
abbrev pub forced_by : EngineState → ℕ → List Origin → List Cid
forced_by s number origins = filter (λ c. is_named (cids_of s.active) c) (negations_from number origins)

-- the oldest nogood goes, and the active negations whose present posting came from it are withdrawn
pub record Drops (s : RepairState) (t : RepairState) : Type 0 where
  pub oldest : Nogood
  pub rest : List Nogood
  pub are : s.nogoods ≡ oldest ∷ rest
  pub engine : EngineState
  pub withdraws : WithdrawsAll s.search.engine (forced_by s.search.engine s.dropped s.origins) engine
  pub after : t ≡ record s {
    search = record { engine = engine; decisions = s.search.decisions };
    nogoods = rest;
    origins = active_origins engine.active s.origins;
    dropped = s.dropped + 1;
  }

-- a list that has the tabu length loses its oldest nogood; a shorter one loses none
abbrev pub MakesRoom : ℕ → RepairState → RepairState → Type 0
MakesRoom tabu s t = ((length s.nogoods ≡ tabu) × Drops s t) ⊎ ((length s.nogoods < tabu) × (t ≡ s))

-- the heaviest decision of the flat conflict is withdrawn after the weights rose; room is made for the nogood; it is
-- appended; and negations are posted
pub record RepairUndoes (tabu : ℕ) (s : RepairState) (gone : Pair) (conflict : List Cid) (t : RepairState) : Type 0 where
  pub flat : HasFlatConflict s.search.engine conflict
  pub left : List Pair
  pub heaviest : IsHeaviest (raised s.weights (decided_vars conflict)) s.search.decisions conflict gone left
  pub engine : EngineState
  pub withdraws : Withdraws s.search.engine (Decide gone.var) engine
  pub roomy : RepairState
  pub makes_room : MakesRoom tabu (record s {
    search = record { engine = engine; decisions = left };
    origins = active_origins engine.active s.origins;
    weights = raised s.weights (decided_vars conflict);
  }) roomy
  pub posts : PostsAll (record roomy { nogoods = roomy.nogoods ++ nogood_of s.search.decisions conflict ∷ [] }) t

-- ---- turns

-- the turn is allowed and leads from s to t
abbrev pub RepairTakes : Bool → ℕ → RepairState → Turn → RepairState → Type 0
RepairTakes guided tabu s (TurnDecide pair pick) t = RepairDecides guided s pair pick t
RepairTakes guided tabu s (TurnUndo gone conflict) t = RepairUndoes tabu s gone conflict t

-- the engine settles, and all else stays
pub record RepairSettles (ordered : Bool) (s t : RepairState) : Type 0 where
  pub settles : SettlesAfter ordered s.search t.search
  pub after : t ≡ record s { search = t.search }

-- the turn and the settling after it
pub record RepairFollows (guided ordered : Bool) (tabu : ℕ) (s : RepairState) (turn : Turn) (t : RepairState) : Type 0 where
  pub middle : RepairState
  pub takes : RepairTakes guided tabu s turn middle
  pub settles : RepairSettles ordered middle t

-- the turns, one after another, lead from s to t
abbrev pub RepairTurns : Bool → Bool → ℕ → RepairState → List Turn → RepairState → Type 0
RepairTurns guided ordered tabu s [] t = t ≡ s
RepairTurns guided ordered tabu s (turn ∷ turns) t =
    (m : RepairState) × RepairFollows guided ordered tabu s turn m × RepairTurns guided ordered tabu m turns t

-- ---- runs

-- nothing is listed, no weight has risen, and nothing was dropped
abbrev pub repair_begun : EngineState → RepairState
repair_begun s = record { search = begun s; nogoods = []; origins = []; weights = map (λ vs. 0) s.initial; dropped = 0 }

-- one settling, and turns within the budget, lead from s to t, where the run ends
pub record RepairRun (guided ordered : Bool) (tabu budget : ℕ) (s : EngineState) (turns : List Turn) (end : SearchEnd) (dropped : ℕ) (t : RepairState) : Type 0 where
  pub start : RepairState
  pub settles : RepairSettles ordered (repair_begun s) start
  pub taken : RepairTurns guided ordered tabu start turns t
  pub within : length turns ≤ budget
  pub ends : EndsWith budget (length turns) t.search.engine end
  pub drops : dropped ≡ t.dropped

-- the whole repair, from the state at the call to the state at the answer
pub record Repairs (guided ordered : Bool) (tabu budget : ℕ) (s : EngineState) (turns : List Turn) (end : SearchEnd) (dropped : ℕ) (t : EngineState) : Type 0 where
  pub last : RepairState
  pub run : RepairRun guided ordered tabu budget s turns end dropped last
  pub closes : Closes of_search ordered last.search.engine t

-- a repair from s with these picks, and how it ends
pub record RepairsTo (guided ordered : Bool) (tabu : ℕ) (f : ℕ → Pick) (budget : ℕ) (s : EngineState) : Type 0 where
  pub turns : List Turn
  pub end : SearchEnd
  pub dropped : ℕ
  pub state : EngineState
  pub repairs : Repairs guided ordered tabu budget s turns end dropped state
  pub picked : IsPicked f turns

-- two repairs are one
pub record IsSameRepair (turns : List Turn) (end : SearchEnd) (dropped : ℕ) (t : EngineState) (others : List Turn) (other : SearchEnd) (lost : ℕ) (u : EngineState) : Type 0 where
  pub turns_same : turns ≡ others
  pub end_same : end ≡ other
  pub dropped_same : dropped ≡ lost
  pub state_same : t ≡ u
