-- How often support may be asked for while lines are answered.
use Rattle.std.specs.Prelude.{◌≡◌, ℕ, ◌≤◌, ◌+◌, ◌⊎◌, false, List, [], ◌∷◌, ◌++◌, Option, Some, slice_get}
use Rattle.palm_base.specs.declared.terms.Cid.TheVariants.{User}
use Rattle.palm_book.specs.declared.book.BookCon.{BookCon}
use Rattle.palm_model.specs.Event.{Withdraws}
use Rattle.palm_model.specs.Log.{Removal, log_pairs}
use Rattle.palm_model.specs.State.{EngineState}
use Rattle.palm_engine.specs.Work.{HasRestored, most_asked, most_asked_back}
use Rattle.palm_read.specs.Reading.{IsRead}
use Rattle.palm_read.specs.declared.line.Line.{Line}
use Rattle.palm_session.specs.Modes.{heard}
use Rattle.palm_session.specs.State.{SessionState}
use Rattle.palm_session.specs.declared.request.Procedure.{Procedure}
use Rattle.palm_session.specs.declared.request.Request.{Request}
use Rattle.palm_session.specs.declared.request.Request.TheVariants.{Solve}
use Rattle.palm_session.specs.Requests.{IsAdmitted}
use Rattle.palm_session.specs.Effects.{Changes, Filters, next}
use Rattle.palm_session.specs.Answers.{Answers}

-- the line was admitted and filtering followed what it asks for, which took out what the log gained
pub record HasSettling (s : SessionState) (bytes : List ℕ) (t : SessionState) : Type 0 where
  pub line : Line
  pub request : Request
  pub changed : SessionState
  pub limit : Option ℕ
  pub gained : List Removal
  pub read : IsRead s.mode bytes line
  pub admitted : IsAdmitted (heard s line) line request
  pub changes : Changes (heard s line) request changed
  pub filters : next changed request ≡ Filters limit
  pub log : t.engine.log ≡ changed.engine.log ++ gained

-- the line was admitted, and asks for a search while filtering does not wait
pub record HasSearch (s : SessionState) (bytes : List ℕ) : Type 0 where
  pub line : Line
  pub by : Procedure
  pub read : IsRead s.mode bytes line
  pub admitted : IsAdmitted (heard s line) line (Solve by)
  pub awake : s.paused ≡ false

-- answering the line asks for support so often: not at all, or where filtering follows the line, no more than this settling
-- may ask; of a search nothing is said
pub data Asks (s : SessionState) (bytes : List ℕ) (t : SessionState) (count : ℕ) : Type 0 where
  asks_none : count ≡ 0 → Asks s bytes t count
  asks_search : HasSearch s bytes → Asks s bytes t count
  asks_settling : (settling : HasSettling s bytes t) → count ≤ most_asked settling.changed.engine (log_pairs settling.gained) → Asks s bytes t count

-- from s the lines are answered one after another, with these replies in all, t is held in the end, and support was asked
-- for so often
abbrev pub RunAsking : SessionState → List (List ℕ) → List ℕ → SessionState → ℕ → Type 0
RunAsking s [] replies t count = (replies ≡ []) × (t ≡ s) × (count ≡ 0)
RunAsking s (line ∷ lines) replies t count =
    (reply others : List ℕ) × (m : SessionState) × (here later : ℕ) × Answers s line reply m × Asks s line m here × (replies ≡ reply ++ others)
    × (count ≡ here + later) × RunAsking m lines others t later

-- the constraint with the name was withdrawn
pub record HasWithdrawn (s : SessionState) (name : List ℕ) (left : EngineState) : Type 0 where
  pub place : ℕ
  pub constraint : BookCon
  pub at : slice_get s.book.constraints place ≡ Some constraint
  pub named : constraint.name ≡ name
  pub withdraws : Withdraws s.engine (User constraint.number) left

-- a line that withdraws the constraint with the name asked so often: the engine lost it, or had not got it; then the log gained
-- some removals; and no more was asked than what is over the variables of which values came back, each once, and over those of
-- the removed pairs
pub record AsksBack (s : SessionState) (name : List ℕ) (t : SessionState) (count : ℕ) : Type 0 where
  pub left : EngineState
  pub gained : List Removal
  pub lost : (left ≡ s.engine) ⊎ HasWithdrawn s name left
  pub log : t.engine.log ≡ left.log ++ gained
  pub back : (vars : List ℕ) → HasRestored s.engine left vars → count ≤ most_asked_back left vars (log_pairs gained)
