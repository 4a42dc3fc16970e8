-- What a search that writes its proof has done.
use Rattle.std.specs.Prelude.{◌≡◌, ℕ, Bool, is_some, List, Option, Result, IfErr}
use Rattle.palm_base.specs.Streams.{Appended, IsSameSink, SinkState}
use Rattle.palm_model.specs.State.{EngineState}
use Rattle.palm_book.specs.Book.{Contents, active_of, initial_of}
use Rattle.palm_engine.specs.Following.{Hearing}
use Rattle.palm_lang.specs.Writing.{AppendedUntil, IsCounted}
use Rattle.palm_lang.specs.declared.stop.WriteStop.{WriteStop}
use Rattle.palm_search.specs.declared.ending.SearchEnd.{SearchEnd}
use Rattle.palm_search.specs.declared.turn.Turn.{Turn}
use Rattle.palm_search.specs.Following.{Moment, SearchRunBy}
use Rattle.palm_search.specs.Turns.{SearchState}
use Rattle.proof_run.specs.Accepted.{IsAcceptedAtNone}
use Rattle.proof_run.specs.SoFar.{IsTextSoFar}
use Rattle.proof_run.specs.Text.{IsTextOf, ProvesBy}

-- the variables with their declared values and the active constraints are those of the book
pub record IsListedInBook (book : Contents) (s : EngineState) : Type 0 where
  pub initial : s.initial ≡ initial_of book
  pub active : s.active ≡ active_of book

-- the run led the guide and the order on, and its text was written
pub record HasRun {G O : Type 0} (guiding : Moment → Option G → Option G → Type 0) (ordering : Hearing → Option O → Option O → Type 0) (guide_first guide_last : Option G) (order_first order_last : Option O)
    (budget : ℕ) (book : Contents) (s : EngineState) (turns : List Turn) (end : SearchEnd) (last : SearchState) (before now : Option (List ℕ)) : Type 0 where
  pub text : List ℕ
  pub by : SearchRunBy guiding ordering guide_first guide_last order_first order_last budget s turns end last
  pub writes : IsTextOf book (is_some guide_first) (is_some order_first) budget s turns end last by.run text
  pub written : Appended before now text

-- the search led the guide and the order on, and its text was written, which is accepted where there is no solution
pub record HasProved {G O : Type 0} (guiding : Moment → Option G → Option G → Type 0) (ordering : Hearing → Option O → Option O → Type 0) (guide_first guide_last : Option G) (order_first order_last : Option O)
    (budget : ℕ) (book : Contents) (s : EngineState) (turns : List Turn) (end : SearchEnd) (t : EngineState) (before now : Option (List ℕ)) : Type 0 where
  pub text : List ℕ
  pub proves : ProvesBy guiding ordering guide_first guide_last order_first order_last budget book s turns end t text
  pub accepted : IsAcceptedAtNone book end text
  pub written : Appended before now text

-- a front of what was to be written so far was written, until the stop
pub record HasWrittenSoFar (stop : WriteStop) (book : Contents) (guided ordered : Bool) (budget : ℕ) (s : EngineState) (turns : List Turn) (before now : Option (List ℕ)) : Type 0 where
  pub text : List ℕ
  pub is : IsTextSoFar book guided ordered budget s turns text
  pub written : AppendedUntil stop before now text

-- what stands behind a run: at a stop a front of what was to be written so far was written, the faults are counted, and the
-- sink is the same
pub record Stops {T : Type 0} (book : Contents) (guided ordered : Bool) (budget : ℕ) (s : EngineState) (turns : List Turn) (was now : SinkState) (result : Result T WriteStop) : Type 0 where
  pub front : IfErr result (λ stop. HasWrittenSoFar stop book guided ordered budget s turns was.written now.written)
  pub counted : IsCounted was.faults now.faults result
  pub sink : IsSameSink was now result
