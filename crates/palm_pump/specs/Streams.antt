-- A source that is read and a sink that is written: their faults, and what is taken.
use Rattle.std.specs.Prelude.{◌≡◌, ℕ, ◌<◌, List, length, take, Option, Some, None, ⊤}
use Rattle.palm_base.specs.Streams.{SourceState, SinkState, Consumes, Rose}
use Rattle.palm_pump.specs.declared.limits.TheConstants.{MOST_INPUT_BYTES}

-- the source that is read and the sink that is written
pub record Streams : Type 0 where
  pub source : SourceState
  pub sink : SinkState

abbrev pub streams : SourceState → SinkState → Streams
streams source sink = record { source = source; sink = sink }

-- neither count of faults moved
pub record IsCalm (before after : Streams) : Type 0 where
  pub read : after.source.faults ≡ before.source.faults
  pub write : after.sink.faults ≡ before.sink.faults

-- a read failed, and no write
pub record FailsToRead (before after : Streams) : Type 0 where
  pub read : Rose before.source.faults after.source.faults
  pub write : after.sink.faults ≡ before.sink.faults

-- a write failed, and no read
pub record FailsToWrite (before after : Streams) : Type 0 where
  pub read : after.source.faults ≡ before.source.faults
  pub write : Rose before.sink.faults after.sink.faults

-- neither count of faults rose
pub record HasNoFault (before after : Streams) : Type 0 where
  pub read : Rose before.source.faults after.source.faults → ⊥
  pub write : Rose before.sink.faults after.sink.faults → ⊥

-- the bytes that can be answered of a text
abbrev pub first_bytes : List ℕ → List ℕ
first_bytes text = take MOST_INPUT_BYTES text

-- the text is all that was left, where it is told
abbrev pub IsAll : Option (List ℕ) → List ℕ → Type 0
IsAll None text = ⊤
IsAll (Some left) text = left ≡ text

-- a source that tells its bytes gave more than can be answered
pub record TakesOver (before after : Streams) : Type 0 where
  pub left : List ℕ
  pub text : List ℕ
  pub tells : before.source.left ≡ Some left
  pub takes : Consumes before.source.left after.source.left text
  pub long : MOST_INPUT_BYTES < length text
