-- What a guide and an order were asked and told along a search that want of memory broke off.
use Rattle.std.specs.Prelude.{◌≡◌, ℕ, ◌<◌, Option, None, is_some, List, [], ◌∷◌, ◌++◌, length}
use Rattle.palm_base.specs.declared.terms.Cid.{Cid}
use Rattle.palm_base.specs.declared.terms.Pair.{Pair}
use Rattle.palm_model.specs.Event.{WithdrawsAll}
use Rattle.palm_model.specs.State.{EngineState, present}
use Rattle.palm_engine.specs.Engine.{View}
use Rattle.palm_engine.specs.Following.{Hearing, IsInterruptedBy, LeadsAlong}
use Rattle.palm_guide.specs.declared.guide.ViewRow.{ViewRow}
use Rattle.palm_search.specs.declared.ending.SearchEnd.{SearchEnd}
use Rattle.palm_search.specs.declared.turn.Pick.{Pick}
use Rattle.palm_search.specs.declared.turn.Turn.{Turn}
use Rattle.palm_search.specs.declared.turn.Turn.TheVariants.{Undo}
use Rattle.palm_search.specs.Asked.{Asks}
use Rattle.palm_search.specs.Breaking.{HasTurned}
use Rattle.palm_search.specs.Following.{Moment, SearchRunBy, moments, settling_hearings, turns_hearings}
use Rattle.palm_search.specs.Search.{begun, search_cids}
use Rattle.palm_search.specs.Turning.{Hears}
use Rattle.palm_search.specs.Turns.{SearchState, HasFlatConflict, Takes, Undoes, decided_vars}

-- ---- the last step

-- memory ran out before a settling from s, and nothing was said to the order; or in it, at t: its revisions led the order,
-- which was asked for the one that was broken off, and told nothing of that
pub data OrderStops {O : Type 0} (answering : List Cid → ℕ → Option O → Option O → Type 0) (ordering : Hearing → Option O → Option O → Type 0) (first last : Option O) (s t : EngineState) : Type 0 where
  stops_before : last ≡ first → t ≡ s → OrderStops answering ordering first last s t
  stops_within : (before after : View) → before.state ≡ s → after.state ≡ t → IsInterruptedBy answering ordering None first last before after → OrderStops answering ordering first last s t

-- memory ran out between two turns: nothing was said to the guide; or it was asked for a decision that was not taken, or
-- told the variables of a conflict of which no decision was undone
pub data GuideStops {G : Type 0} (answers : G → List ViewRow → Option Pair → List ℕ → Type 0) (hears : G → List ℕ → List ℕ → Type 0) (state : G → List ℕ) (s : SearchState) (before after : Option G) : Type 0 where
  stops_silent : after ≡ before → GuideStops answers hears state s before after
  stops_asked : (pick : Pick) → Asks answers state (present s.engine) before after pick → GuideStops answers hears state s before after
  stops_told : (conflict : List Cid) → HasFlatConflict s.engine conflict → Hears hears state (decided_vars conflict) before after → GuideStops answers hears state s before after

-- between two turns, or within one that is the last of the journal: that turn led the guide
pub data GuideStopsAt {G : Type 0} (guiding : Moment → Option G → Option G → Type 0) (stopping : SearchState → Option G → Option G → Type 0) (old new : Option G) (s : SearchState) (before after : List Turn) : Type 0 where
  stops_between : after ≡ before → stopping s old new → GuideStopsAt guiding stopping old new s before after
  stops_in_turn : (turn : Turn) → after ≡ before ++ turn ∷ [] → guiding (record { state = s; turn = turn }) old new → GuideStopsAt guiding stopping old new s before after

-- ---- the turns so far

-- one settling and turns within the budget, which led the guide, and whose settlings led the order
pub record HasTurnedBy {G O : Type 0} (guiding : Moment → Option G → Option G → Type 0) (ordering : Hearing → Option O → Option O → Type 0) (guide_first guide_last : Option G) (order_first order_last : Option O)
    (budget : ℕ) (s : EngineState) (turns : List Turn) (t : SearchState) : Type 0 where
  pub turned : HasTurned (is_some guide_first) (is_some order_first) budget s turns t
  pub guide : LeadsAlong guiding (moments (is_some guide_first) (is_some order_first) turned.start turns t turned.taken) guide_first guide_last
  pub order : LeadsAlong ordering (settling_hearings (is_some order_first) (begun s) turned.start turned.settles ++ turns_hearings (is_some guide_first) (is_some order_first) turned.start turns t turned.taken) order_first order_last

-- a run was broken off after these turns, as IsCutOff says it; they and the last step led the guide and the order so far
pub data IsCutOffBy {G O : Type 0} (guiding : Moment → Option G → Option G → Type 0) (stopping : SearchState → Option G → Option G → Type 0) (ordering : Hearing → Option O → Option O → Type 0) (answering : List Cid → ℕ → Option O → Option O → Type 0)
    (guide_first guide_last : Option G) (order_first order_last : Option O) (budget : ℕ) (s : EngineState) (turns : List Turn) (t : EngineState) : Type 0 where
  by_first_settling : turns ≡ [] → guide_last ≡ guide_first → OrderStops answering ordering order_first order_last s t
      → IsCutOffBy guiding stopping ordering answering guide_first guide_last order_first order_last budget s turns t
  by_next_turn : (m : SearchState) (guide : Option G) → HasTurnedBy guiding ordering guide_first guide order_first order_last budget s turns m → t ≡ m.engine → stopping m guide guide_last
      → IsCutOffBy guiding stopping ordering answering guide_first guide_last order_first order_last budget s turns t
  by_undoing : (m next : SearchState) (before : List Turn) (gone : Pair) (conflict : List Cid) (undoes : Undoes m gone conflict next) (guide : Option G)
      → HasTurnedBy guiding ordering guide_first guide order_first order_last budget s before m → length before < budget → turns ≡ before ++ Undo gone conflict ∷ [] → t ≡ undoes.middle
      → guiding (record { state = m; turn = Undo gone conflict }) guide guide_last → IsCutOffBy guiding stopping ordering answering guide_first guide_last order_first order_last budget s turns t
  by_settling : (m next : SearchState) (before : List Turn) (turn : Turn) (guide : Option G) (order : Option O) → HasTurnedBy guiding ordering guide_first guide order_first order budget s before m → length before < budget
      → Takes (is_some guide_first) m turn next → turns ≡ before ++ turn ∷ [] → guiding (record { state = m; turn = turn }) guide guide_last → OrderStops answering ordering order order_last next.engine t
      → IsCutOffBy guiding stopping ordering answering guide_first guide_last order_first order_last budget s turns t

-- ---- whole searches

-- the run was broken off, and all its decisions and negations are withdrawn; or it ended, and the settling after that was broken off
pub data BreaksOffBy {G O : Type 0} (guiding : Moment → Option G → Option G → Type 0) (stopping : SearchState → Option G → Option G → Type 0) (ordering : Hearing → Option O → Option O → Type 0) (answering : List Cid → ℕ → Option O → Option O → Type 0)
    (guide_first guide_last : Option G) (order_first order_last : Option O) (budget : ℕ) (s : EngineState) (turns : List Turn) (t : EngineState) : Type 0 where
  by_run : (cut : EngineState) → IsCutOffBy guiding stopping ordering answering guide_first guide_last order_first order_last budget s turns cut → WithdrawsAll cut (search_cids cut.active) t
      → BreaksOffBy guiding stopping ordering answering guide_first guide_last order_first order_last budget s turns t
  by_last_settling : (last : SearchState) (end : SearchEnd) (middle : EngineState) (order : Option O) → SearchRunBy guiding ordering guide_first guide_last order_first order budget s turns end last
      → WithdrawsAll last.engine (search_cids last.engine.active) middle → OrderStops answering ordering order order_last middle t
      → BreaksOffBy guiding stopping ordering answering guide_first guide_last order_first order_last budget s turns t
