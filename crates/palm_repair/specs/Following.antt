-- What a guide and an order are asked and told along a repair.
use Rattle.std.specs.Prelude.{ℕ, Bool, is_some, List, [], ◌∷◌, ◌++◌, Option}
use Rattle.palm_model.specs.State.{EngineState}
use Rattle.palm_engine.specs.Following.{Hearing, LeadsAlong}
use Rattle.palm_search.specs.declared.ending.SearchEnd.{SearchEnd}
use Rattle.palm_search.specs.declared.turn.Turn.{Turn}
use Rattle.palm_search.specs.Search.{of_search}
use Rattle.palm_search.specs.Following.{Moment, closing_hearings, settling_hearings}
use Rattle.palm_repair.specs.declared.answer.RepairAnswer.{RepairAnswer}
use Rattle.palm_repair.specs.Answers.{HasRepaired, end_of}
use Rattle.palm_repair.specs.Posting.{RepairState}
use Rattle.palm_repair.specs.Repair.{RepairRun, RepairSettles, RepairTurns, repair_begun}
use Rattle.palm_repair.specs.Turning.{HasRun}

-- the turns, each with the state in which it was taken
abbrev pub repair_moments : (guided ordered : Bool) (tabu : ℕ) (s : RepairState) (turns : List Turn) (t : RepairState) → RepairTurns guided ordered tabu s turns t → List Moment
repair_moments guided ordered tabu s [] t taken = []
repair_moments guided ordered tabu s (turn ∷ turns) t taken = record { state = s.search; turn = turn } ∷ repair_moments guided ordered tabu taken.0 turns t taken.2

-- what is heard of a settling
abbrev pub settled_hearings : (ordered : Bool) (s t : RepairState) → RepairSettles ordered s t → List Hearing
settled_hearings ordered s t settles = settling_hearings ordered s.search t.search settles.settles

-- of the settlings after the turns
abbrev pub turned_hearings : (guided ordered : Bool) (tabu : ℕ) (s : RepairState) (turns : List Turn) (t : RepairState) → RepairTurns guided ordered tabu s turns t → List Hearing
turned_hearings guided ordered tabu s [] t taken = []
turned_hearings guided ordered tabu s (turn ∷ turns) t taken = settled_hearings ordered taken.1.middle taken.0 taken.1.settles ++ turned_hearings guided ordered tabu taken.0 turns t taken.2

-- of the first settling and of those after the turns
abbrev pub repair_hearings : (guided ordered : Bool) (tabu budget : ℕ) (s : EngineState) (turns : List Turn) (end : SearchEnd) (dropped : ℕ) (t : RepairState) → RepairRun guided ordered tabu budget s turns end dropped t → List Hearing
repair_hearings guided ordered tabu budget s turns end dropped t run = settled_hearings ordered (repair_begun s) run.start run.settles ++ turned_hearings guided ordered tabu run.start turns t run.taken

-- a run, whose turns led the guide, and whose settlings led the order, from what they were first to what they are at last
pub record HasRunBy {G O : Type 0} (guiding : Moment → Option G → Option G → Type 0) (ordering : Hearing → Option O → Option O → Type 0) (guide_first guide_last : Option G) (order_first order_last : Option O)
    (tabu budget : ℕ) (s : EngineState) (turns : List Turn) (t : EngineState) (answer : RepairAnswer) : Type 0 where
  pub has_run : HasRun (is_some guide_first) (is_some order_first) tabu budget s turns t answer
  pub guide : LeadsAlong guiding (repair_moments (is_some guide_first) (is_some order_first) tabu has_run.run.start turns has_run.last has_run.run.taken) guide_first guide_last
  pub order : LeadsAlong ordering (repair_hearings (is_some guide_first) (is_some order_first) tabu budget s turns (end_of answer) has_run.last.dropped has_run.last has_run.run) order_first order_last

-- a repair, whose turns led the guide, and all of whose settlings, the last one included, led the order
pub record HasRepairedBy {G O : Type 0} (guiding : Moment → Option G → Option G → Type 0) (ordering : Hearing → Option O → Option O → Type 0) (guide_first guide_last : Option G) (order_first order_last : Option O)
    (tabu budget : ℕ) (s : EngineState) (turns : List Turn) (t : EngineState) (answer : RepairAnswer) : Type 0 where
  pub repaired : HasRepaired (is_some guide_first) (is_some order_first) tabu budget s turns t answer
  pub guide : LeadsAlong guiding (repair_moments (is_some guide_first) (is_some order_first) tabu repaired.repairs.run.start turns repaired.repairs.last repaired.repairs.run.taken) guide_first guide_last
  pub order : LeadsAlong ordering (repair_hearings (is_some guide_first) (is_some order_first) tabu budget s turns (end_of answer) repaired.dropped repaired.repairs.last repaired.repairs.run
      ++ closing_hearings of_search (is_some order_first) repaired.repairs.last.search.engine t repaired.repairs.closes) order_first order_last
