-- What the steps of `gen` do: lines whose replies are not kept, and then a `solve` line whose reply is written.
use Rattle.std.specs.Prelude.{◌≡◌, ℕ, List, [], flat_map, All, Option, Result, Ok, Err, false}
use Rattle.palm_base.specs.Streams.{SinkState, Appended, Rose}
use Rattle.palm_lang.specs.Reply.{ended}
use Rattle.palm_lang.specs.Writing.{AppendedUntil}
use Rattle.palm_session.specs.Answers.{Answers}
use Rattle.palm_session.specs.Feeding.{View}
use Rattle.palm_read.specs.Lines.{HasNoFeed, without_return}
use Rattle.palm_session.specs.Replies.{Run, GoesOn}
use Rattle.palm_session.specs.State.{SessionState}
use Rattle.palm_lang.specs.declared.stop.WriteStop.{WriteStop as Stop}
use Rattle.palm_lang.specs.declared.stop.WriteStop.TheVariants.{WriteFault, NoMemory}
use Rattle.palm_cli.specs.Generator.{solve_line}

-- a line that is one line as it stands, and does not end the session
pub record IsInner (line : List ℕ) : Type 0 where
  pub unbroken : HasNoFeed line
  pub bare : without_return line ≡ line
  pub goes_on : GoesOn line

-- the text of such lines
pub record IsTextOf (lines : List (List ℕ)) (text : List ℕ) : Type 0 where
  pub whole : text ≡ flat_map ended lines
  pub inner : All IsInner lines

-- the lines and then a `solve` line were answered, and the reply of that one was written
pub record Solves (before : SessionState) (lines : List (List ℕ)) (was now : Option (List ℕ)) (after : SessionState) : Type 0 where
  pub between : SessionState
  pub replies : List ℕ
  pub reply : List ℕ
  pub run : Run before lines replies between
  pub answers : Answers between solve_line reply after
  pub written : Appended was now reply

-- the reply of that one was written until the stop
pub record SolvesPart (stop : Stop) (before : SessionState) (lines : List (List ℕ)) (was now : Option (List ℕ)) : Type 0 where
  pub between : SessionState
  pub after : SessionState
  pub replies : List ℕ
  pub reply : List ℕ
  pub run : Run before lines replies between
  pub answers : Answers between solve_line reply after
  pub written : AppendedUntil stop was now reply

-- the same by the answer of the step
abbrev pub SolvesAfter : {G O T : Type 0} → View G O → List (List ℕ) → SinkState → SinkState → View G O → Result T Stop → Type 0
SolvesAfter session lines before after later (Ok _) =
    (after.faults ≡ before.faults) × Solves session.state lines before.written after.written later.state × (later.unfinished ≡ []) × (later.over ≡ false)
SolvesAfter session lines before after later (Err WriteFault) =
    Rose before.faults after.faults × SolvesPart WriteFault session.state lines before.written after.written
SolvesAfter session lines before after later (Err NoMemory) =
    (after.faults ≡ before.faults) × SolvesPart NoMemory session.state lines before.written after.written
