-- What the commands do: the bytes that are taken, the bytes that are written, and the cause of each status.
use Rattle.std.specs.Prelude.{◌≡◌, ℕ, ◌<◌, ◌≤◌, ◌⊎◌, List, [], ◌∷◌, ◌++◌, ◌+◌, length, flat_map, codes, All, Option, Some, None, Result, Ok, Err, ⊤}
use Rattle.palm_base.specs.Streams.{SourceState, SinkState, Consumes, Appended, AppendedProperFront, Rose}
use Rattle.palm_lang.specs.Reply.{ended}
use Rattle.palm_lang.specs.Writing.{AppendedUntil}
use Rattle.palm_session.specs.State.{SessionState, fresh}
use Rattle.palm_read.specs.Lines.{HasNoFeed, without_return}
use Rattle.palm_session.specs.Replies.{Replies, Ends}
use Rattle.palm_session.specs.Feeding.{FeedsEnd, FeedsOn, FeedsPart}
use Rattle.palm_lang.specs.declared.stop.WriteStop.{WriteStop as Stop}
use Rattle.palm_lang.specs.declared.stop.WriteStop.TheVariants as stops
use Rattle.palm_pump.specs.Pumping.{Pumps, StopsInTime}
use Rattle.palm_pump.specs.Streams.{FailsToRead, FailsToWrite, IsAll, IsCalm, Streams, first_bytes}
use Rattle.palm_pump.specs.Taking.{Progress}
use Rattle.palm_pump.specs.Taking.Progress.{More, Enough, Whole, Until, WholeUntil}
use Rattle.palm_pump.specs.declared.ending.PumpEnd.{PumpEnd}
use Rattle.palm_pump.specs.declared.ending.PumpEnd.TheVariants as ends
use Rattle.palm_pump.specs.declared.limits.TheConstants.{MOST_INPUT_BYTES, PIECE}
use Rattle.palm_cli.specs.Generator.{IsSummary}
use Rattle.palm_cli.specs.Verdicts.{IsTold}
use Rattle.palm_cli.specs.declared.words.Evidence.{Evidence}
use Rattle.palm_cli.specs.declared.words.Request.{Request}
use Rattle.palm_cli.specs.declared.words.Request.TheVariants.{Run, Judge, Gen}
use Rattle.palm_cli.specs.declared.status.Status.{Status}
use Rattle.palm_cli.specs.declared.status.Status.TheVariants.{Done, Refused, Usage, ReadFault, WriteFault, NoMemory, TooLong}

abbrev pub usage_line : List ℕ
usage_line = ended (codes "usage: palm run, palm check, palm proof or palm gen N")

-- some line of the text, with its line feed, ends the session
pub record HasEnd (text : List ℕ) : Type 0 where
  pub before : List (List ℕ)
  pub last : List ℕ
  pub rest : List ℕ
  pub whole : text ≡ flat_map ended (before ++ last ∷ []) ++ rest
  pub unbroken : All HasNoFeed (before ++ last ∷ [])
  pub ends : Ends (without_return last)

-- what a session with these numbers does with the bytes of a text, by how far it comes in them: it answers the lines that they
-- complete, or those up to one that ends it, or those until a stop; and at the end all lines, a last one without its line feed
-- among them
abbrev pub Answering : List ℕ → List ℕ → Progress → List ℕ → SinkState → SinkState → SessionState → Type 0
Answering guides orders More text before after state =
    (rest : List ℕ) × (asked : ℕ) × FeedsOn (fresh guides orders) text before.written after.written rest state asked
Answering guides orders Enough text before after state =
    (asked : ℕ) × FeedsEnd (fresh guides orders) text before.written after.written state asked
Answering guides orders Whole text before after state =
    (output : List ℕ) × Replies guides orders text output × Appended before.written after.written output
Answering guides orders (Until stop) text before after state = FeedsPart stop (fresh guides orders) text before.written after.written
Answering guides orders (WholeUntil stop) text before after state =
    (output : List ℕ) × Replies guides orders text output × AppendedUntil stop before.written after.written output

-- the whole text was taken and answered: to its end, or to a line among the first bytes that ends the session
pub record RunsAll (guides orders : List ℕ) (before after : Streams) : Type 0 where
  pub text : List ℕ
  pub output : List ℕ
  pub takes : Consumes before.source.left after.source.left text
  pub in_time : StopsInTime (Answering guides orders) before.sink text
  pub reach : ((length text ≤ MOST_INPUT_BYTES) × IsAll before.source.left text) ⊎ HasEnd (first_bytes text)
  pub replies : Replies guides orders text output
  pub written : Appended before.sink.written after.sink.written output

-- the lines were answered while the source was read, which ended so
abbrev pub RunsTo : PumpEnd → List ℕ → List ℕ → Streams → Streams → Type 0
RunsTo end guides orders before after = (state : SessionState) × Pumps (Answering guides orders) before after state end

-- what `run` does where guides and orders with these numbers were handed in, by the status that it ends with
abbrev pub Runs : List ℕ → List ℕ → Streams → Streams → Status → Type 0
Runs guides orders before after Done = IsCalm before after × RunsAll guides orders before after
Runs guides orders before after Refused = ⊥
Runs guides orders before after Usage = ⊥
Runs guides orders before after ReadFault = RunsTo ends.ReadFault guides orders before after
Runs guides orders before after WriteFault = RunsTo ends.WriteFault guides orders before after
Runs guides orders before after NoMemory = RunsTo ends.NoMemory guides orders before after
Runs guides orders before after TooLong = RunsTo ends.TooLong guides orders before after

-- the whole text was taken: to its end, and within the limit
pub record TakesText (before after : SourceState) (text : List ℕ) : Type 0 where
  pub takes : Consumes before.left after.left text
  pub short : length text ≤ MOST_INPUT_BYTES
  pub whole : IsAll before.left text

-- no read came after more than the limit were taken: without its last piece the text is within it
abbrev pub IsInTime : List ℕ → Type 0
IsInTime text = length text ≤ MOST_INPUT_BYTES + PIECE

-- the whole text was taken, and the line of its verdict was written, behind which the command ends so
pub record JudgesAll (evidence : Evidence) (before after : Streams) (status : Status) : Type 0 where
  pub text : List ℕ
  pub line : List ℕ
  pub takes : TakesText before.source after.source text
  pub is : IsTold evidence text line status
  pub written : Appended before.sink.written after.sink.written line

-- the whole text was taken, and a proper front of the line of its verdict was written
pub record JudgesPart (evidence : Evidence) (before after : Streams) : Type 0 where
  pub text : List ℕ
  pub line : List ℕ
  pub told : Status
  pub takes : TakesText before.source after.source text
  pub is : IsTold evidence text line told
  pub written : AppendedProperFront before.sink.written after.sink.written line

-- these bytes were taken, and nothing was written
pub record JudgesNone (before after : Streams) (text : List ℕ) : Type 0 where
  pub takes : Consumes before.source.left after.source.left text
  pub unwritten : after.sink ≡ before.sink

-- what `check` and `proof` do, by the status that they end with
abbrev pub JudgesSource : Evidence → Streams → Streams → Status → Type 0
JudgesSource evidence before after Done = IsCalm before after × JudgesAll evidence before after Done
JudgesSource evidence before after Refused = IsCalm before after × JudgesAll evidence before after Refused
JudgesSource evidence before after Usage = ⊥
JudgesSource evidence before after ReadFault = FailsToRead before after × (text : List ℕ) × JudgesNone before after text × (length text ≤ MOST_INPUT_BYTES)
JudgesSource evidence before after WriteFault = FailsToWrite before after × JudgesPart evidence before after
JudgesSource evidence before after NoMemory = IsCalm before after × (text : List ℕ) × JudgesNone before after text × IsInTime text
JudgesSource evidence before after TooLong = IsCalm before after × (text : List ℕ) × JudgesNone before after text × (MOST_INPUT_BYTES < length text) × IsInTime text

-- the usage line was written, or a proper front of it where a write failed, or nothing where memory ran out
abbrev pub WritesUsage : SinkState → SinkState → Status → Type 0
WritesUsage before after Usage = (after.faults ≡ before.faults) × Appended before.written after.written usage_line
WritesUsage before after WriteFault = Rose before.faults after.faults × AppendedProperFront before.written after.written usage_line
WritesUsage before after NoMemory = after ≡ before
WritesUsage before after _ = ⊥

-- other words: nothing was read, and the usage line was written
pub record Refuses (before after : Streams) (status : Status) : Type 0 where
  pub unread : after.source ≡ before.source
  pub usage : WritesUsage before.sink after.sink status

-- the summary was written, or until a write failed or memory ran out
abbrev pub WritesSummary : ℕ → SinkState → SinkState → Status → Type 0
WritesSummary size before after Done =
    (after.faults ≡ before.faults) × (summary : List ℕ) × IsSummary size summary × Appended before.written after.written summary
WritesSummary size before after WriteFault =
    Rose before.faults after.faults × (summary : List ℕ) × IsSummary size summary × AppendedUntil stops.WriteFault before.written after.written summary
WritesSummary size before after NoMemory =
    (after.faults ≡ before.faults) × (summary : List ℕ) × IsSummary size summary × AppendedUntil stops.NoMemory before.written after.written summary
WritesSummary size before after _ = ⊥

-- `gen`: nothing was read, and the summary of the session of so many queens was written
pub record Generates (size : ℕ) (before after : Streams) (status : Status) : Type 0 where
  pub unread : after.source ≡ before.source
  pub summary : WritesSummary size before.sink after.sink status

-- what is done for a request, or for other words
abbrev pub Obeys : List ℕ → List ℕ → Option Request → Streams → Streams → Status → Type 0
Obeys guides orders None before after status = Refuses before after status
Obeys guides orders (Some Run) before after status = Runs guides orders before after status
Obeys guides orders (Some (Judge evidence)) before after status = JudgesSource evidence before after status
Obeys guides orders (Some (Gen size)) before after status = Generates size before after status

-- the status of a command that stopped, or did not
abbrev pub status_of : {T : Type 0} → Result T Stop → Status
status_of (Ok _) = Done
status_of (Err stops.WriteFault) = WriteFault
status_of (Err stops.NoMemory) = NoMemory

-- a text that can be answered whole
abbrev pub IsAnswerable : List ℕ → Type 0
IsAnswerable text = (length text ≤ MOST_INPUT_BYTES) ⊎ HasEnd (first_bytes text)

-- what was taken can be answered whole
abbrev pub TakesAnswerable : Streams → Streams → Type 0
TakesAnswerable before after = (text : List ℕ) → Consumes before.source.left after.source.left text → IsAnswerable text

-- a source that tells its bytes gave more than can be answered, and none of the first ends the session
pub record TakesTooMuch (before after : Streams) : Type 0 where
  pub left : List ℕ
  pub text : List ℕ
  pub told : before.source.left ≡ Some left
  pub takes : Consumes before.source.left after.source.left text
  pub long : MOST_INPUT_BYTES < length text
  pub unended : HasEnd (first_bytes text) → ⊥

-- the status of a whole run, or want of memory
abbrev pub IsWhole : Status → Type 0
IsWhole Done = ⊤
IsWhole NoMemory = ⊤
IsWhole _ = ⊥

-- the status of a text that is too long, or want of memory
abbrev pub IsCut : Status → Type 0
IsCut TooLong = ⊤
IsCut NoMemory = ⊤
IsCut _ = ⊥

-- a source that tells its bytes gave a text within the limit behind whose verdict the command ends so
pub record TakesJudged (evidence : Evidence) (before after : Streams) (status : Status) : Type 0 where
  pub left : List ℕ
  pub text : List ℕ
  pub line : List ℕ
  pub tells : before.source.left ≡ Some left
  pub takes : Consumes before.source.left after.source.left text
  pub short : length text ≤ MOST_INPUT_BYTES
  pub is : IsTold evidence text line status

-- this status, or want of memory
abbrev pub EndsWith : Status → Status → Type 0
EndsWith told status = (status ≡ told) ⊎ (status ≡ NoMemory)
