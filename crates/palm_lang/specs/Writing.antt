-- What writing a text to a sink does.
use Rattle.std.specs.Prelude.{◌≡◌, ℕ, ◌<◌, ◌≤◌, ⊤, List, ◌++◌, length, Option, Result, MatchResult, OnOk, IfErr}
use Rattle.palm_base.specs.Streams.{SinkState, Appended, Rose, IsSameSink}
use Rattle.palm_lang.specs.declared.stop.WriteStop.{WriteStop}
use Rattle.palm_lang.specs.declared.stop.WriteStop.TheVariants.{WriteFault, NoMemory}

-- the sink's count of faults rose at a fault of writing, and stands at want of memory
abbrev pub HasStopCause : ℕ → ℕ → WriteStop → Type 0
HasStopCause before now WriteFault = (before ≤ now) × Rose before now
HasStopCause before now NoMemory = now ≡ before

-- the count rose at a fault of writing, and stands at every other answer
abbrev pub IsCounted : {T : Type 0} → ℕ → ℕ → Result T WriteStop → Type 0
IsCounted before now result = MatchResult result (λ _. now ≡ before) (λ stop. HasStopCause before now stop)

-- something of a text is left at a fault of writing, and maybe nothing at want of memory
abbrev pub IsLeft : WriteStop → List ℕ → Type 0
IsLeft WriteFault back = 0 < length back
IsLeft NoMemory back = ⊤

-- a front of the text was written, until the stop
pub record AppendedUntil (stop : WriteStop) (before now : Option (List ℕ)) (text : List ℕ) : Type 0 where
  pub front : List ℕ
  pub back : List ℕ
  pub whole : text ≡ front ++ back
  pub left : IsLeft stop back
  pub written : Appended before now front

-- the text was written, or until a stop, to the same sink
pub record Writes {T : Type 0} (before now : SinkState) (text : List ℕ) (result : Result T WriteStop) : Type 0 where
  pub counted : IsCounted before.faults now.faults result
  pub stands : IsSameSink before now result
  pub ok : OnOk result (Appended before.written now.written text)
  pub err : IfErr result (λ stop. AppendedUntil stop before.written now.written text)
