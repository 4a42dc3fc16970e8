-- What a guide and an order are asked and told along a search.
use Rattle.std.specs.Prelude.{ℕ, Bool, is_some, List, [], ◌∷◌, ◌++◌, Option}
use Rattle.palm_base.specs.declared.terms.Cid.{Cid}
use Rattle.palm_base.specs.declared.terms.Pair.{Pair}
use Rattle.palm_model.specs.Domains.{Domains}
use Rattle.palm_model.specs.State.{EngineState, present}
use Rattle.palm_engine.specs.Following.{Hearing, LeadsAlong, hearings}
use Rattle.palm_guide.specs.declared.guide.ViewRow.{ViewRow}
use Rattle.palm_search.specs.declared.ending.SearchEnd.{SearchEnd}
use Rattle.palm_search.specs.declared.turn.Turn.{Turn}
use Rattle.palm_search.specs.declared.turn.Turn.TheVariants.{Decide as TurnDecide, Undo as TurnUndo}
use Rattle.palm_search.specs.Asked.{Asks}
use Rattle.palm_search.specs.Search.{Closes, SearchRun, Searches, begun, of_search}
use Rattle.palm_search.specs.Turning.{Hears}
use Rattle.palm_search.specs.Turns.{SearchState, SettlesAfter, Turns, decided_vars}

-- ---- turns

-- a turn, and the state in which it was taken
pub record Moment : Type 0 where
  pub state : SearchState
  pub turn : Turn

-- by its own relations, at a decision a guide is asked once with the view of the domains, and its answer is the pick; at an
-- undoing it is told once the variables of the conflict's decisions. Where there is no guide, there is none after it
abbrev pub GuideTakes : {G : Type 0} → (G → List ViewRow → Option Pair → List ℕ → Type 0) → (G → List ℕ → List ℕ → Type 0) → (G → List ℕ) → Domains → Turn → Option G → Option G → Type 0
GuideTakes answers hears state d (TurnDecide pair pick) before after = Asks answers state d before after pick
GuideTakes answers hears state d (TurnUndo gone conflict) before after = Hears hears state (decided_vars conflict) before after

abbrev pub GuideFollows : {G : Type 0} → (G → List ViewRow → Option Pair → List ℕ → Type 0) → (G → List ℕ → List ℕ → Type 0) → (G → List ℕ) → Moment → Option G → Option G → Type 0
GuideFollows answers hears state moment before after = GuideTakes answers hears state (present moment.state.engine) moment.turn before after

-- the turns, each with the state in which it was taken
abbrev pub moments : (guided ordered : Bool) (s : SearchState) (turns : List Turn) (t : SearchState) → Turns guided ordered s turns t → List Moment
moments guided ordered s [] t taken = []
moments guided ordered s (turn ∷ turns) t taken = record { state = s; turn = turn } ∷ moments guided ordered taken.0 turns t taken.2

-- ---- settlings

-- what is heard of a settling
abbrev pub settling_hearings : (ordered : Bool) (s t : SearchState) → SettlesAfter ordered s t → List Hearing
settling_hearings ordered s t settles = hearings s.engine settles.revisions t.engine settles.settles.revisions

-- of the settlings after the turns
abbrev pub turns_hearings : (guided ordered : Bool) (s : SearchState) (turns : List Turn) (t : SearchState) → Turns guided ordered s turns t → List Hearing
turns_hearings guided ordered s [] t taken = []
turns_hearings guided ordered s (turn ∷ turns) t taken = settling_hearings ordered taken.1.middle taken.0 taken.1.settles ++ turns_hearings guided ordered taken.0 turns t taken.2

-- of the first settling and of those after the turns
abbrev pub run_hearings : (guided ordered : Bool) (budget : ℕ) (s : EngineState) (turns : List Turn) (end : SearchEnd) (t : SearchState) → SearchRun guided ordered budget s turns end t → List Hearing
run_hearings guided ordered budget s turns end t run = settling_hearings ordered (begun s) run.start run.settles ++ turns_hearings guided ordered run.start turns t run.taken

-- and of the settling after the end
abbrev pub closing_hearings : (own : Cid → Bool) (ordered : Bool) (s t : EngineState) → Closes own ordered s t → List Hearing
closing_hearings own ordered s t closes = hearings closes.middle closes.revisions t closes.settles.revisions

-- ---- whole searches

-- a run, whose turns led the guide, and whose settlings led the order, from what they were first to what they are at last
pub record SearchRunBy {G O : Type 0} (guiding : Moment → Option G → Option G → Type 0) (ordering : Hearing → Option O → Option O → Type 0) (guide_first guide_last : Option G) (order_first order_last : Option O)
    (budget : ℕ) (s : EngineState) (turns : List Turn) (end : SearchEnd) (t : SearchState) : Type 0 where
  pub run : SearchRun (is_some guide_first) (is_some order_first) budget s turns end t
  pub guide : LeadsAlong guiding (moments (is_some guide_first) (is_some order_first) run.start turns t run.taken) guide_first guide_last
  pub order : LeadsAlong ordering (run_hearings (is_some guide_first) (is_some order_first) budget s turns end t run) order_first order_last

-- a search, whose turns led the guide, and all of whose settlings, the last one included, led the order
pub record SearchesBy {G O : Type 0} (guiding : Moment → Option G → Option G → Type 0) (ordering : Hearing → Option O → Option O → Type 0) (guide_first guide_last : Option G) (order_first order_last : Option O)
    (budget : ℕ) (s : EngineState) (turns : List Turn) (end : SearchEnd) (t : EngineState) : Type 0 where
  pub searches : Searches (is_some guide_first) (is_some order_first) budget s turns end t
  pub guide : LeadsAlong guiding (moments (is_some guide_first) (is_some order_first) searches.run.start turns searches.last searches.run.taken) guide_first guide_last
  pub order : LeadsAlong ordering (run_hearings (is_some guide_first) (is_some order_first) budget s turns end searches.last searches.run ++ closing_hearings of_search (is_some order_first) searches.last.engine t searches.closes) order_first order_last
