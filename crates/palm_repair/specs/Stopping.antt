-- What a guide and an order were asked and told along a repair that want of memory broke off.
use Rattle.std.specs.Prelude.{◌≡◌, ℕ, ◌<◌, Option, is_some, List, [], ◌∷◌, ◌++◌, length}
use Rattle.palm_base.specs.declared.terms.Cid.{Cid}
use Rattle.palm_model.specs.Event.{WithdrawsAll}
use Rattle.palm_model.specs.State.{EngineState}
use Rattle.palm_engine.specs.Following.{Hearing, LeadsAlong}
use Rattle.palm_search.specs.declared.turn.Turn.{Turn}
use Rattle.palm_search.specs.Following.{Moment}
use Rattle.palm_search.specs.Search.{search_cids}
use Rattle.palm_search.specs.Stopping.{OrderStops}
use Rattle.palm_search.specs.Turns.{SearchState}
use Rattle.palm_repair.specs.declared.answer.RepairAnswer.{RepairAnswer}
use Rattle.palm_repair.specs.Following.{HasRunBy, repair_moments, settled_hearings, turned_hearings}
use Rattle.palm_repair.specs.Posting.{PostsSome, RepairState}
use Rattle.palm_repair.specs.Repair.{RepairTakes, repair_begun}
use Rattle.palm_repair.specs.Turning.{HasTurned, before_posting}

-- the turns so far, which led the guide, and whose settlings led the order
pub record HasTurnedBy {G O : Type 0} (guiding : Moment → Option G → Option G → Type 0) (ordering : Hearing → Option O → Option O → Type 0) (guide_first guide_last : Option G) (order_first order_last : Option O)
    (tabu budget : ℕ) (s : EngineState) (turns : List Turn) (t : RepairState) : Type 0 where
  pub turned : HasTurned (is_some guide_first) (is_some order_first) tabu budget s turns t
  pub guide : LeadsAlong guiding (repair_moments (is_some guide_first) (is_some order_first) tabu turned.start turns t turned.taken) guide_first guide_last
  pub order : LeadsAlong ordering (settled_hearings (is_some order_first) (repair_begun s) turned.start turned.settles ++ turned_hearings (is_some guide_first) (is_some order_first) tabu turned.start turns t turned.taken) order_first order_last

-- a repair was broken off after these turns, as IsCutOff says it; they and the last step led the guide and the order so far
pub data IsCutOffBy {G O : Type 0} (guiding : Moment → Option G → Option G → Type 0) (stopping : SearchState → Option G → Option G → Type 0) (ordering : Hearing → Option O → Option O → Type 0) (answering : List Cid → ℕ → Option O → Option O → Type 0)
    (guide_first guide_last : Option G) (order_first order_last : Option O) (tabu budget : ℕ) (s : EngineState) (turns : List Turn) (t : EngineState) : Type 0 where
  by_first_settling : turns ≡ [] → guide_last ≡ guide_first → OrderStops answering ordering order_first order_last s t
      → IsCutOffBy guiding stopping ordering answering guide_first guide_last order_first order_last tabu budget s turns t
  by_next_turn : (m : RepairState) (guide : Option G) → HasTurnedBy guiding ordering guide_first guide order_first order_last tabu budget s turns m → t ≡ m.search.engine → stopping m.search guide guide_last
      → IsCutOffBy guiding stopping ordering answering guide_first guide_last order_first order_last tabu budget s turns t
  by_turn : (m next : RepairState) (before : List Turn) (turn : Turn) (takes : RepairTakes (is_some guide_first) tabu m turn next) (guide : Option G) → HasTurnedBy guiding ordering guide_first guide order_first order_last tabu budget s before m
      → length before < budget → turns ≡ before ++ turn ∷ [] → PostsSome (before_posting (is_some guide_first) tabu m turn next takes) t → guiding (record { state = m.search; turn = turn }) guide guide_last
      → IsCutOffBy guiding stopping ordering answering guide_first guide_last order_first order_last tabu budget s turns t
  by_settling : (m next : RepairState) (before : List Turn) (turn : Turn) (guide : Option G) (order : Option O) → RepairTakes (is_some guide_first) tabu m turn next → HasTurnedBy guiding ordering guide_first guide order_first order tabu budget s before m
      → length before < budget → turns ≡ before ++ turn ∷ [] → guiding (record { state = m.search; turn = turn }) guide guide_last → OrderStops answering ordering order order_last next.search.engine t
      → IsCutOffBy guiding stopping ordering answering guide_first guide_last order_first order_last tabu budget s turns t

-- the run was broken off, and all its decisions and negations are withdrawn; or it ended, and the settling after that was broken off
pub data BreaksOffBy {G O : Type 0} (guiding : Moment → Option G → Option G → Type 0) (stopping : SearchState → Option G → Option G → Type 0) (ordering : Hearing → Option O → Option O → Type 0) (answering : List Cid → ℕ → Option O → Option O → Type 0)
    (guide_first guide_last : Option G) (order_first order_last : Option O) (tabu budget : ℕ) (s : EngineState) (turns : List Turn) (t : EngineState) : Type 0 where
  by_run : (cut : EngineState) → IsCutOffBy guiding stopping ordering answering guide_first guide_last order_first order_last tabu budget s turns cut → WithdrawsAll cut (search_cids cut.active) t
      → BreaksOffBy guiding stopping ordering answering guide_first guide_last order_first order_last tabu budget s turns t
  by_last_settling : (ended middle : EngineState) (answer : RepairAnswer) (order : Option O) → HasRunBy guiding ordering guide_first guide_last order_first order tabu budget s turns ended answer
      → WithdrawsAll ended (search_cids ended.active) middle → OrderStops answering ordering order order_last middle t
      → BreaksOffBy guiding stopping ordering answering guide_first guide_last order_first order_last tabu budget s turns t
