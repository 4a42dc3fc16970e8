-- What streams over memory hold.
use Rattle.std.specs.Prelude.{◌≡◌, ℕ, ◌+◌, ◌-◌, ◌==◌, min, List, ◌++◌, length, take, Contains, Bool, true, false, Option, None, Some, if◌then◌else◌, Result, OnOk, OnErr}
use Rattle.palm_base.specs.declared.limits.TheConstants.{LAST_COUNT}
use Rattle.palm_base.specs.Counts.{one_more}
use Rattle.palm_base.specs.Streams.{SourceState, SinkState, source, sink}

-- the bytes that a source has left, and how many it hands out at a call
pub record Left : Type 0 where
  pub bytes : List ℕ
  pub piece : ℕ

-- the calls of a stream: which ones fail, how many were made and how many failed
pub record Calls : Type 0 where
  pub failing : List ℕ
  pub made : ℕ
  pub faults : ℕ

-- the next call is one that fails
abbrev pub IsListed : Calls → Type 0
IsListed c = Contains c.failing (one_more c.made)

-- the calls after one more, which failed or not
abbrev pub after_call : Calls → Bool → Calls
after_call c true = record c { made = one_more c.made; faults = one_more c.faults }
after_call c false = record c { made = one_more c.made }

-- one more call was made; it failed where it is listed, and then a fault was counted
pub record IsCalled {T E : Type 0} (before now : Calls) (result : Result T E) : Type 0 where
  pub ok : OnOk result ((IsListed before → ⊥) × (now ≡ after_call before false))
  pub err : OnErr result (IsListed before × (now ≡ after_call before true))

-- the bytes that a sink keeps, the spare room behind them, and how many bytes found none
pub record Kept : Type 0 where
  pub bytes : List ℕ
  pub room : ℕ
  pub dropped : ℕ

-- the bytes that find room are kept, and the others are counted, up to the last number of a count
abbrev pub after_keeping : Kept → List ℕ → Kept
after_keeping kept piece = record {
  bytes = kept.bytes ++ take (min kept.room (length piece)) piece;
  room = kept.room - min kept.room (length piece);
  dropped = min (kept.dropped + (length piece - min kept.room (length piece))) LAST_COUNT;
}

-- all that was written, where nothing was dropped
abbrev pub told_bytes : Kept → Option (List ℕ)
told_bytes kept = if kept.dropped == 0 then Some kept.bytes else None

-- how many bytes a source hands out into a buffer of this length
abbrev pub handed_out : Left → ℕ → ℕ
handed_out left room = min (min left.piece room) (length left.bytes)

-- what a sink keeps, and how many bytes it takes at a call
pub record Keeping : Type 0 where
  pub kept : Kept
  pub piece : ℕ

-- a stream over memory with its calls
pub record Flawed (Inner : Type 0) : Type 0 where
  pub inner : Inner
  pub calls : Calls

-- a source over memory tells its bytes
abbrev pub source_state : Left → ℕ → SourceState
source_state left faults = source (Some left.bytes) faults

-- a sink over memory tells its bytes while nothing was dropped
abbrev pub sink_state : Kept → ℕ → SinkState
sink_state kept faults = sink (told_bytes kept) faults
