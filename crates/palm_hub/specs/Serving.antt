-- What the hub reads and writes, and the cause of each status.
use Rattle.std.specs.Prelude.{◌≡◌, ℕ, ◌≤◌, List, [], length, codes, ⊤}
use Rattle.palm_base.specs.Streams.{SinkState, Consumes, Appended, AppendedProperFront, Rose}
use Rattle.palm_lang.specs.declared.stop.WriteStop.TheVariants as stops
use Rattle.palm_pump.specs.Pumping.{Pumps}
use Rattle.palm_pump.specs.Streams.{Streams}
use Rattle.palm_pump.specs.Taking.{Progress}
use Rattle.palm_pump.specs.Taking.Progress.{More, Enough, Whole, Until, WholeUntil}
use Rattle.palm_pump.specs.declared.ending.PumpEnd.{PumpEnd}
use Rattle.palm_pump.specs.declared.ending.PumpEnd.TheVariants as ends
use Rattle.palm_pump.specs.declared.limits.TheConstants.{MOST_INPUT_BYTES}
use Rattle.palm_read.specs.Lines.{ended}
use Rattle.palm_hub.specs.Hub.{HubReplies, Opened}
use Rattle.palm_hub.specs.Standing.{AnswersLastUntil, AnswersLines, AnswersUntil, HubView, StandsBehind}
use Rattle.palm_hub.specs.declared.status.HubStatus.{HubStatus}
use Rattle.palm_hub.specs.declared.status.HubStatus.TheVariants.{Done, Usage, ReadFault, WriteFault, NoMemory, TooLong}

-- what a hub does with the bytes of a text, by how far it comes in them: it answers the lines that they complete, or those until
-- a stop; and at the end all lines, a last one without its line feed among them. It never has enough. At want of memory this is
-- known where the sink's count of faults did not rise
abbrev pub Answering : {T : Type 0} → Progress → List ℕ → SinkState → SinkState → T → Type 0
Answering More text before after _ =
    (sessions : List Opened) × (rest : List ℕ) × AnswersLines [] text before.written after.written rest sessions
Answering Enough text before after _ = ⊥
Answering Whole text before after _ = (output : List ℕ) × HubReplies text output × Appended before.written after.written output
Answering (Until stop) text before after _ =
    (stop ≡ stops.NoMemory → Rose before.faults after.faults → ⊥) → AnswersUntil stop [] text before.written after.written
Answering (WholeUntil stop) text before after _ =
    (stop ≡ stops.NoMemory → Rose before.faults after.faults → ⊥) → AnswersLastUntil stop [] text before.written after.written

-- the lines of the source were answered while it was read, which ended so
abbrev pub ServesTo : PumpEnd → Streams → Streams → Type 0
ServesTo end before after = Pumps {T = ⊤} Answering before after tt end

-- what the hub does where there is no word, by the status that it ends with
abbrev pub Serves : Streams → Streams → HubStatus → Type 0
Serves before after Done = ServesTo ends.Done before after
Serves before after Usage = ⊥
Serves before after ReadFault = ServesTo ends.ReadFault before after
Serves before after WriteFault = ServesTo ends.WriteFault before after
Serves before after NoMemory = ServesTo ends.NoMemory before after
Serves before after TooLong = ServesTo ends.TooLong before after

abbrev pub usage_line : List ℕ
usage_line = ended (codes "usage: palm_hub")

-- what it does where there are words: nothing was read, and the usage line was written, or a proper front of it where a write
-- failed
abbrev pub Refuses : Streams → Streams → HubStatus → Type 0
Refuses before after Usage =
    (after.source ≡ before.source) × (after.sink.faults ≡ before.sink.faults) × Appended before.sink.written after.sink.written usage_line
Refuses before after WriteFault =
    (after.source ≡ before.source) × Rose before.sink.faults after.sink.faults
    × AppendedProperFront before.sink.written after.sink.written usage_line
Refuses before after _ = ⊥

-- what was taken is within the limit
abbrev pub TakesWithin : Streams → Streams → Type 0
TakesWithin before after = (text : List ℕ) → Consumes before.source.left after.source.left text → length text ≤ MOST_INPUT_BYTES

-- all was answered, or memory ran out
abbrev pub IsWhole : HubStatus → Type 0
IsWhole Done = ⊤
IsWhole NoMemory = ⊤
IsWhole _ = ⊥

-- the text was too long, or memory ran out
abbrev pub IsCut : HubStatus → Type 0
IsCut TooLong = ⊤
IsCut NoMemory = ⊤
IsCut _ = ⊥

-- ---- what takes the bytes

-- what it does, with where it stands behind them; the sink's count of faults stands while it goes on
abbrev pub TakesLines : {G O : Type 0} → Progress → List ℕ → SinkState → SinkState → HubView G O → Type 0
TakesLines More text before after hub =
    (after.faults ≡ before.faults) × (sessions : List Opened) × (rest : List ℕ)
    × AnswersLines [] text before.written after.written rest sessions × StandsBehind sessions rest hub
TakesLines progress text before after hub = Answering progress text before after hub
