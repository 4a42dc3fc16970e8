-- The ways of searching: what each needs, what its answer tells, and what is left to reply.
use Rattle.std.specs.Prelude.{◌≡◌, ℕ, ℤ, ◌<◌, ⊤, Bool, List, [], length, Option, None, Some}
use Rattle.palm_base.specs.Streams.{Appended}
use Rattle.palm_model.specs.Domains.{Has}
use Rattle.palm_model.specs.Limits.{IsValue}
use Rattle.palm_model.specs.State.{EngineState}
use Rattle.palm_book.specs.Book.{Contents}
use Rattle.palm_best.specs.Cuts.{is_own}
use Rattle.palm_best.specs.declared.best.Best.TheVariants.{Least as LeastFound, NoSolution as NoneFound, Spent as SpentBest}
use Rattle.palm_lang.specs.Writing.{AppendedUntil}
use Rattle.palm_lang.specs.declared.reply.Lead.TheVariants.{NoSolution as NoSolutionLead}
use Rattle.palm_lang.specs.declared.stop.WriteStop.{WriteStop}
use Rattle.palm_lang.specs.declared.stop.WriteStop.TheVariants.{NoMemory}
use Rattle.palm_repair.specs.Answers.{TellsDropped, end_of}
use Rattle.palm_repair.specs.declared.answer.RepairAnswer.TheVariants.{Found as RepairFound, NoSolution as RepairNone, Spent as RepairSpent}
use Rattle.palm_search.specs.Kept.{HasNone}
use Rattle.palm_search.specs.declared.ending.SearchEnd.{SearchEnd}
use Rattle.palm_search.specs.declared.ending.SearchEnd.TheVariants.{Found, NoSolution, Spent}
use Rattle.palm_search.specs.declared.turn.Turn.{Turn}
use Rattle.proof_run.specs.Text.{Proves}
use Rattle.palm_session.specs.Answers.{told_text}
use Rattle.palm_session.specs.Effects.{Telling, InShort, InFull, AsLeast, SoFar, best_end, best_telling}
use Rattle.palm_session.specs.Led.{Guiding, Ordering, RunsBy, SearchesOn}
use Rattle.palm_session.specs.Objects.{HeldObjects}
use Rattle.palm_session.specs.Serving.{HasRun}
use Rattle.palm_session.specs.State.{SessionState}
use Rattle.palm_session.specs.declared.reply.Reply.{Reply}
use Rattle.palm_session.specs.declared.reply.Reply.TheVariants.{Nothing as NothingReply, Users, Found as FoundReply, Spent as SpentReply, Best as BestReply, SpentBest as SpentBestReply}
use Rattle.palm_session.specs.declared.request.Procedure.{Procedure}
use Rattle.palm_session.specs.declared.request.Procedure.TheVariants.{Dbt, Repair, Proof, Least}
use Rattle.palm_session.specs.declared.ways.Searched.{Searched}
use Rattle.palm_session.specs.declared.ways.Searched.TheVariants.{Dbt as DbtAnswer, Repair as RepairAnswer, Proof as ProofAnswer, Least as LeastAnswer}

-- the engine can search in this way
abbrev pub CanRun : EngineState → Procedure → Type 0
CanRun s (Dbt budget) = ⊤
CanRun s (Repair tabu budget) = 0 < tabu
CanRun s (Proof budget) = ⊤
CanRun s (Least target budget) = HasNone is_own s × (target < length s.initial) × ((v : ℤ) → Has s.initial target v → IsValue v)

-- ---- what is told

-- what is written of a search while it runs: its proof, where that is told
abbrev pub written_of : Telling → List ℕ
written_of (InShort dropped) = []
written_of (InFull text) = text
written_of (AsLeast users) = []
written_of (SoFar best) = []

-- the answer tells how the search ended, and how that is told
abbrev pub TellsEnd : Searched → SearchEnd → Telling → Type 0
TellsEnd (DbtAnswer answer) end telling = (end ≡ answer) × (telling ≡ InShort None)
TellsEnd (RepairAnswer answer) end telling = (dropped : ℕ) × TellsDropped answer dropped × (end ≡ end_of answer) × (telling ≡ InShort (Some dropped))
TellsEnd ProofAnswer end telling = (text : List ℕ) × (telling ≡ InFull text)
TellsEnd (LeastAnswer best) end telling = (end ≡ best_end best) × (telling ≡ best_telling best)

-- what is left to reply
abbrev pub reply_of : Searched → Reply
reply_of (DbtAnswer (Found values)) = FoundReply values
reply_of (DbtAnswer (NoSolution users)) = Users NoSolutionLead users
reply_of (DbtAnswer (Spent turns)) = SpentReply turns None
reply_of (RepairAnswer (RepairFound values)) = FoundReply values
reply_of (RepairAnswer (RepairNone users)) = Users NoSolutionLead users
reply_of (RepairAnswer (RepairSpent turns dropped)) = SpentReply turns (Some dropped)
reply_of ProofAnswer = NothingReply
reply_of (LeastAnswer (LeastFound values users)) = BestReply values users
reply_of (LeastAnswer (NoneFound users)) = Users NoSolutionLead users
reply_of (LeastAnswer (SpentBest turns None)) = SpentReply turns None
reply_of (LeastAnswer (SpentBest turns (Some values))) = SpentBestReply turns values

-- ---- a search of the engine

-- it has run and led a guide and an order on, the answer tells of it, and what is written while it runs was written
pub record RunsTo {G O : Type 0} (guiding : Guiding G) (ordering : Ordering O) (guide_first guide_last : Option G) (order_first order_last : Option O)
    (by : Procedure) (book : Contents) (s : EngineState) (turns : List Turn) (answer : Searched) (t : EngineState) (was now : Option (List ℕ)) : Type 0 where
  pub end : SearchEnd
  pub telling : Telling
  pub runs : RunsBy guiding ordering guide_first guide_last order_first order_last by book s turns end telling t
  pub tells : TellsEnd answer end telling
  pub written : Appended was now (written_of telling)

-- a front of the proof of some search from here was written, until the stop
pub record WritesProofFront (stop : WriteStop) (guided ordered : Bool) (budget : ℕ) (book : Contents) (s : EngineState) (was now : Option (List ℕ)) : Type 0 where
  pub turns : List Turn
  pub end : SearchEnd
  pub after : EngineState
  pub text : List ℕ
  pub proves : Proves guided ordered budget book s turns end after text
  pub written : AppendedUntil stop was now text

-- it was broken off: of a proof a front was written, and else nothing, for want of memory
abbrev pub StopsSo : WriteStop → Bool → Bool → Procedure → Contents → EngineState → Option (List ℕ) → Option (List ℕ) → Type 0
StopsSo stop guided ordered (Proof budget) book s was now = WritesProofFront stop guided ordered budget book s was now
StopsSo stop guided ordered _ book s was now = (stop ≡ NoMemory) × (now ≡ was)

-- ---- a search of the session

-- it has run and led the chosen objects, the answer tells of it, and what is written while it runs was written
pub record HasSearched {G O : Type 0} (guiding : Guiding G) (ordering : Ordering O) (s : SessionState) (by : Procedure) (was now : Option (List ℕ)) (answer : Searched) (before : HeldObjects G O) (t : SessionState) (after : HeldObjects G O) : Type 0 where
  pub end : SearchEnd
  pub telling : Telling
  pub run : SearchesOn guiding ordering s by end telling before t after
  pub tells : TellsEnd answer end telling
  pub written : Appended was now (written_of telling)

-- it has run and led the chosen objects, and the whole reply was written
pub record HasTold {G O : Type 0} (guiding : Guiding G) (ordering : Ordering O) (s : SessionState) (by : Procedure) (was now : Option (List ℕ)) (before : HeldObjects G O) (t : SessionState) (after : HeldObjects G O) : Type 0 where
  pub end : SearchEnd
  pub telling : Telling
  pub run : SearchesOn guiding ordering s by end telling before t after
  pub written : Appended was now (told_text t.book end telling)

-- a front of the reply to some search from here was written, until the stop
pub record HasToldFront (stop : WriteStop) (s : SessionState) (by : Procedure) (was now : Option (List ℕ)) : Type 0 where
  pub end : SearchEnd
  pub telling : Telling
  pub after : SessionState
  pub run : HasRun s by end telling after
  pub written : AppendedUntil stop was now (told_text after.book end telling)
