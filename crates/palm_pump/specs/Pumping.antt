-- What reading does: the bytes that are taken, what the taker does with them, and the cause of each end.
use Rattle.std.specs.Prelude.{◌≡◌, ℕ, ◌<◌, ◌≤◌, ◌+◌, ◌⊎◌, List, [], ◌++◌, length, Result, Ok, Err}
use Rattle.palm_base.specs.Streams.{SinkState, Consumes}
use Rattle.palm_lang.specs.declared.stop.WriteStop.{WriteStop as Stop}
use Rattle.palm_lang.specs.declared.stop.WriteStop.TheVariants as stops
use Rattle.palm_pump.specs.Streams.{Streams, IsCalm, FailsToRead, FailsToWrite, IsAll, first_bytes}
use Rattle.palm_pump.specs.Taking.{Progress, Taking}
use Rattle.palm_pump.specs.Taking.Progress.{More, Enough, Whole, Until, WholeUntil}
use Rattle.palm_pump.specs.declared.ending.PumpEnd.{PumpEnd}
use Rattle.palm_pump.specs.declared.ending.PumpEnd.TheVariants.{Done, ReadFault, WriteFault, NoMemory, TooLong}
use Rattle.palm_pump.specs.declared.limits.TheConstants.{MOST_INPUT_BYTES, PIECE}

-- how reading ends where the taker stops
abbrev pub end_of : Stop → PumpEnd
end_of stops.WriteFault = WriteFault
end_of stops.NoMemory = NoMemory

-- no byte was taken yet, and memory may run out there
pub record Begins {T : Type 0} (takes : Taking T) (sink : SinkState) (taker : T) : Type 0 where
  pub going : takes More [] sink sink taker
  pub wanting : takes (Until stops.NoMemory) [] sink sink taker

-- no read came too late: before the last piece the text was within the limit, and the taker, which had done with it what is to
-- be done, took more
pub record StopsInTime {T : Type 0} (takes : Taking T) (before : SinkState) (text : List ℕ) : Type 0 where
  pub front : List ℕ
  pub piece : List ℕ
  pub whole : text ≡ front ++ piece
  pub small : length piece ≤ PIECE
  pub within : length front ≤ MOST_INPUT_BYTES
  pub sink : SinkState
  pub taker : T
  pub going : takes More front before sink taker

-- these bytes were taken, and in the first of them, as many as can be answered, the taker came so far
pub record PumpsFirst {T : Type 0} (takes : Taking T) (progress : Progress) (before after : Streams) (taker : T) : Type 0 where
  pub text : List ℕ
  pub taken : Consumes before.source.left after.source.left text
  pub in_time : StopsInTime takes before.sink text
  pub does : takes progress (first_bytes text) before.sink after.sink taker

-- the source ended within the limit, and at its end the taker came so far
pub record PumpsWhole {T : Type 0} (takes : Taking T) (progress : Progress) (before after : Streams) (taker : T) : Type 0 where
  pub text : List ℕ
  pub taken : Consumes before.source.left after.source.left text
  pub short : length text ≤ MOST_INPUT_BYTES
  pub all : IsAll before.source.left text
  pub in_time : StopsInTime takes before.sink text
  pub does : takes progress text before.sink after.sink taker

-- the taker stopped, in the first bytes or at the end
abbrev pub PumpsPart : {T : Type 0} → Taking T → Stop → Streams → Streams → T → Type 0
PumpsPart takes stop before after taker =
    PumpsFirst takes (Until stop) before after taker ⊎ PumpsWhole takes (WholeUntil stop) before after taker

-- what reading does, by how it ends
abbrev pub Pumps : {T : Type 0} → Taking T → Streams → Streams → T → PumpEnd → Type 0
Pumps takes before after taker Done =
    IsCalm before after × (PumpsWhole takes Whole before after taker ⊎ PumpsFirst takes Enough before after taker)
Pumps takes before after taker ReadFault =
    FailsToRead before after × (pumps : PumpsFirst takes More before after taker) × (length pumps.text ≤ MOST_INPUT_BYTES)
Pumps takes before after taker WriteFault = FailsToWrite before after × PumpsPart takes stops.WriteFault before after taker
Pumps takes before after taker NoMemory = IsCalm before after × PumpsPart takes stops.NoMemory before after taker
Pumps takes before after taker TooLong =
    IsCalm before after × (pumps : PumpsFirst takes More before after taker) × (MOST_INPUT_BYTES < length pumps.text)

-- ---- one read

-- so many bytes were taken without a fault, and the taker takes more
pub record Pumped {T : Type 0} (takes : Taking T) (before after : Streams) (count : ℕ) (taker : T) : Type 0 where
  pub pumps : PumpsFirst takes More before after taker
  pub long : length pumps.text ≡ count
  pub calm : IsCalm before after

-- the same, from some streams and some taker on
abbrev pub HasPumped : {T : Type 0} → (T → Taking T) → Streams → ℕ → T → Type 0
HasPumped {T} takes now count taker = (first : T) × (before : Streams) × Pumped (takes first) before now count taker

-- what is so behind one more read: so many bytes more were taken, or reading ended there
abbrev pub PumpsTo : {T : Type 0} → Taking T → Streams → ℕ → Streams → T → Result ℕ PumpEnd → Type 0
PumpsTo takes before taken after taker (Ok count) = Pumped takes before after (taken + count) taker
PumpsTo takes before taken after taker (Err end) = Pumps takes before after taker end

-- whatever was read before, one read goes on from there
abbrev pub PumpsOn : {T : Type 0} → (T → Taking T) → Streams → ℕ → T → Streams → T → Result ℕ PumpEnd → Type 0
PumpsOn {T} takes mid taken was after taker result =
    (first : T) (before : Streams) → Pumped (takes first) before mid taken was → PumpsTo (takes first) before taken after taker result
