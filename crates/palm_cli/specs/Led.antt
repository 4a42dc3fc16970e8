-- How the objects that were handed in to `run` are led while the lines are answered, under the numbers that they were handed in by.
use Rattle.std.specs.Prelude.{ℕ, List, Option, Some, ⊤}
use Rattle.palm_base.specs.Streams.{Consumes, Appended}
use Rattle.palm_pump.specs.Streams.{Streams}
use Rattle.palm_read.specs.Lines.{AreLines}
use Rattle.palm_session.specs.Led.{Guiding, Ordering, RunLeads}
use Rattle.palm_session.specs.Objects.{HeldObjects, all_placed}
use Rattle.palm_session.specs.Replies.{AreAnswered}
use Rattle.palm_session.specs.State.{SessionState, fresh}
use Rattle.palm_cli.specs.declared.status.Status.{Status}
use Rattle.palm_cli.specs.declared.status.Status.TheVariants.{Done}
use Rattle.palm_cli.specs.declared.words.Request.{Request}
use Rattle.palm_cli.specs.declared.words.Request.TheVariants.{Run}

-- these guides and orders under the numbers 1, 2, 3 .., as they were handed in, of which none is chosen
abbrev pub handed_in : {G O : Type 0} → List G → List O → HeldObjects G O
handed_in guides orders = record { guides = all_placed guides; orders = all_placed orders }

-- the output is the replies to the lines of the text, one by one, from a fresh session with these numbers, and answering them
-- led these objects
pub record RepliesLead {G O : Type 0} (guiding : Guiding G) (ordering : Ordering O) (guides orders : List ℕ) (objects : HeldObjects G O) (text output : List ℕ) : Type 0 where
  pub lines : List (List ℕ)
  pub answered : List (List ℕ)
  pub state : SessionState
  pub after : HeldObjects G O
  pub are_lines : AreLines text lines
  pub are_answered : AreAnswered lines answered
  pub run : RunLeads guiding ordering (fresh guides orders) answered output objects state after

-- a text was taken, and the replies to its lines were written, of which each line led the objects
pub record RunsAllLead {G O : Type 0} (guiding : Guiding G) (ordering : Ordering O) (guides orders : List ℕ) (objects : HeldObjects G O) (before after : Streams) : Type 0 where
  pub text : List ℕ
  pub output : List ℕ
  pub takes : Consumes before.source.left after.source.left text
  pub written : Appended before.sink.written after.sink.written output
  pub replies : RepliesLead guiding ordering guides orders objects text output

-- what `run` does with these objects, by the status that it ends with: behind a stop nothing is said of them
abbrev pub RunsLead : {G O : Type 0} → Guiding G → Ordering O → List ℕ → List ℕ → HeldObjects G O → Streams → Streams → Status → Type 0
RunsLead guiding ordering guides orders objects before after Done = RunsAllLead guiding ordering guides orders objects before after
RunsLead guiding ordering guides orders objects before after _ = ⊤

-- what is done with them for a request: `run` alone has objects
abbrev pub ObeysLead : {G O : Type 0} → Guiding G → Ordering O → List ℕ → List ℕ → HeldObjects G O → Option Request → Streams → Streams → Status → Type 0
ObeysLead guiding ordering guides orders objects (Some Run) before after status = RunsLead guiding ordering guides orders objects before after status
ObeysLead guiding ordering guides orders objects _ before after status = ⊤
