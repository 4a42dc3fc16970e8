-- One turn of a repair after another, and where want of memory may break them off.
use Rattle.std.specs.Prelude.{◌≡◌, ℕ, ◌+◌, ◌<◌, ◌≤◌, Bool, Option, None, Some, List, [], ◌∷◌, ◌++◌, length, Contains}
use Rattle.palm_model.specs.State.{EngineState}
use Rattle.palm_model.specs.Event.{WithdrawsAll}
use Rattle.palm_engine.specs.Settling.{Filters}
use Rattle.palm_search.specs.declared.turn.Turn.{Turn}
use Rattle.palm_search.specs.declared.turn.Turn.TheVariants.{Decide as TurnDecide, Undo as TurnUndo}
use Rattle.palm_search.specs.Calls.{SearchView}
use Rattle.palm_search.specs.Following.{Moment}
use Rattle.palm_search.specs.Search.{EndsWith, search_cids}
use Rattle.palm_repair.specs.declared.answer.RepairAnswer.{RepairAnswer}
use Rattle.palm_repair.specs.Posting.{Nogood, RepairState, PostsAll, PostsSome, active_origins, nogood_of}
use Rattle.palm_repair.specs.Repair.{MakesRoom, RepairSettles, RepairTakes, RepairTurns, RepairRun, repair_begun}
use Rattle.palm_repair.specs.Kept.{IsAtTurn}
use Rattle.palm_repair.specs.Answers.{end_of, TellsDropped}

-- ---- one turn

-- what holds between two turns after so many of them: the list is no longer than the tabu length, and there were no more
-- undoings than turns
pub record IsReady (tabu count : ℕ) (s : RepairState) : Type 0 where
  pub at : IsAtTurn s
  pub few : length s.nogoods ≤ tabu
  pub weights : (w : ℕ) → Contains s.weights w → w ≤ count
  pub listed : s.dropped + length s.nogoods ≤ count

-- the origins that are left when constraints were withdrawn
abbrev pub filtered : RepairState → RepairState
filtered s = record s { origins = active_origins s.search.engine.active s.origins }

-- room is made for the nogood, it is appended, and negations are posted
pub record Learns (tabu : ℕ) (nogood : Nogood) (s t : RepairState) : Type 0 where
  pub roomy : RepairState
  pub makes_room : MakesRoom tabu s roomy
  pub posts : PostsAll (record roomy { nogoods = roomy.nogoods ++ nogood ∷ [] }) t

-- the same, but negations are posted for some of the listed nogoods
pub record LearnsSome (tabu : ℕ) (nogood : Nogood) (s : RepairState) (t : EngineState) : Type 0 where
  pub roomy : RepairState
  pub makes_room : MakesRoom tabu s roomy
  pub posts : PostsSome (record roomy { nogoods = roomy.nogoods ++ nogood ∷ [] }) t

-- within the turn, before the negations that follow: its decision is posted; or withdrawn, and its nogood listed
abbrev pub before_posting : (guided : Bool) (tabu : ℕ) (s : RepairState) (turn : Turn) (t : RepairState) → RepairTakes guided tabu s turn t → RepairState
before_posting guided tabu s (TurnDecide pair pick) t takes = record s { search = takes.middle }
before_posting guided tabu s (TurnUndo gone conflict) t takes = record takes.roomy { nogoods = takes.roomy.nogoods ++ nogood_of s.search.decisions conflict ∷ [] }

-- the turn is taken, and it is the last one of the journal
pub record TakesRepairTurn (guided : Bool) (tabu : ℕ) (turn : Turn) (s : RepairState) (before : SearchView) (t : RepairState) (after : SearchView) : Type 0 where
  pub takes : RepairTakes guided tabu s turn t
  pub journal : after.journal ≡ before.journal ++ turn ∷ []

-- the run ends here with the answer, and nothing has changed; without an answer, the next turn was taken, and it led the
-- guide from the one state to the other
abbrev pub Advances : {G : Type 0} → (Moment → Option G → Option G → Type 0) → Option G → Option G → Bool → ℕ → ℕ → RepairState → SearchView → RepairState → SearchView → Option RepairAnswer → Type 0
Advances guiding old new guided tabu budget s before t after None =
    (turn : Turn) × (length before.journal < budget) × TakesRepairTurn guided tabu turn s before t after × guiding (record { state = s.search; turn = turn }) old new
Advances guiding old new guided tabu budget s before t after (Some answer) = EndsWith budget (length before.journal) s.search.engine (end_of answer) × TellsDropped answer s.dropped × (t ≡ s) × (after ≡ before) × (new ≡ old)

-- memory ran out before a turn, or within one that is the last of the journal: of the negations that follow its decision or
-- its withdrawal some are posted
pub data IsCutTurn (guided : Bool) (tabu : ℕ) (s : RepairState) (before : SearchView) (t : EngineState) (after : SearchView) : Type 0 where
  cut_before : t ≡ s.search.engine → after.journal ≡ before.journal → IsCutTurn guided tabu s before t after
  cut_within : (turn : Turn) (next : RepairState) (takes : RepairTakes guided tabu s turn next) → PostsSome (before_posting guided tabu s turn next takes) t
      → after.journal ≡ before.journal ++ turn ∷ [] → IsCutTurn guided tabu s before t after

-- ---- all turns

-- one settling, and turns within the budget, lead from s to t
pub record HasTurned (guided ordered : Bool) (tabu budget : ℕ) (s : EngineState) (turns : List Turn) (t : RepairState) : Type 0 where
  pub start : RepairState
  pub settles : RepairSettles ordered (repair_begun s) start
  pub taken : RepairTurns guided ordered tabu start turns t
  pub within : length turns ≤ budget

-- a repair was broken off after these turns: in the first settling, before the next turn, within the last one, whose
-- negations are posted in part, or in the settling after it
pub data IsCutOff (guided ordered : Bool) (tabu budget : ℕ) (s : EngineState) (turns : List Turn) (t : EngineState) : Type 0 where
  in_first_settling : turns ≡ [] → Filters s t → IsCutOff guided ordered tabu budget s turns t
  before_turn : (m : RepairState) → HasTurned guided ordered tabu budget s turns m → t ≡ m.search.engine → IsCutOff guided ordered tabu budget s turns t
  within_turn : (m next : RepairState) (before : List Turn) (turn : Turn) (takes : RepairTakes guided tabu m turn next) → HasTurned guided ordered tabu budget s before m → length before < budget
      → turns ≡ before ++ turn ∷ [] → PostsSome (before_posting guided tabu m turn next takes) t → IsCutOff guided ordered tabu budget s turns t
  in_settling : (m next : RepairState) (before : List Turn) (turn : Turn) → RepairTakes guided tabu m turn next → HasTurned guided ordered tabu budget s before m → length before < budget
      → turns ≡ before ++ turn ∷ [] → Filters next.search.engine t → IsCutOff guided ordered tabu budget s turns t

-- and all its decisions and negations are withdrawn; the settling after that may have begun
pub record BreaksOff (guided ordered : Bool) (tabu budget : ℕ) (s : EngineState) (turns : List Turn) (t : EngineState) : Type 0 where
  pub cut : EngineState
  pub is : IsCutOff guided ordered tabu budget s turns cut
  pub middle : EngineState
  pub withdraws : WithdrawsAll cut (search_cids cut.active) middle
  pub filters : Filters middle t

-- the turns led from s to the end that the answer tells, and the engine is at it
pub record HasRun (guided ordered : Bool) (tabu budget : ℕ) (s : EngineState) (turns : List Turn) (t : EngineState) (answer : RepairAnswer) : Type 0 where
  pub last : RepairState
  pub run : RepairRun guided ordered tabu budget s turns (end_of answer) last.dropped last
  pub at : t ≡ last.search.engine
  pub told : TellsDropped answer last.dropped
