-- What a read and a write do to a stream: to its bytes, where the stream tells them, and to its count of faults.
use Rattle.std.specs.Prelude.{◌≡◌, ℕ, ◌<◌, ◌≤◌, Bool, false, List, [], ◌++◌, length, take, ⊤, Option, None, Some, Result, MatchResult, OnOk, OnErr}
use Rattle.palm_base.specs.Counts.{one_more}

-- a source: the bytes that are left, where it tells them, and how many faults there were
pub record SourceState : Type 0 where
  pub left : Option (List ℕ)
  pub faults : ℕ

-- a sink: the bytes that were written, where it tells them, how many faults there were, which sink it is, and whether a
-- failure left something of the sink's own behind the bytes
pub record SinkState : Type 0 where
  pub written : Option (List ℕ)
  pub faults : ℕ
  pub home : ℕ
  pub torn : Bool

abbrev pub source : Option (List ℕ) → ℕ → SourceState
source left faults = record { left = left; faults = faults }

-- a sink that writes the bytes as they are, and nothing of its own
abbrev pub sink : Option (List ℕ) → ℕ → SinkState
sink written faults = record { written = written; faults = faults; home = 0; torn = false }

-- a sink that tells nothing of its bytes
abbrev pub silent_sink : ℕ → SinkState
silent_sink faults = sink None faults

-- a count of faults rose, or stands at its last number
abbrev pub Rose : ℕ → ℕ → Type 0
Rose before now = one_more before ≤ now

-- the count never falls; it stands at a good answer, and a failure comes only where it rose
pub record HasCause {T E : Type 0} (before now : ℕ) (result : Result T E) : Type 0 where
  pub later : before ≤ now
  pub ok : OnOk result (now ≡ before)
  pub failed : OnErr result (Rose before now)

-- the bytes that were left, where they were told, are these bytes and then those that are left now
abbrev pub Consumes : Option (List ℕ) → Option (List ℕ) → List ℕ → Type 0
Consumes None now bytes = ⊤
Consumes (Some before) None bytes = ⊥
Consumes (Some before) (Some now) bytes = before ≡ bytes ++ now

-- no byte is left, where the bytes are told
abbrev pub IsAtEnd : Option (List ℕ) → Type 0
IsAtEnd None = ⊤
IsAtEnd (Some left) = left ≡ []

-- a read gives the first bytes that were left and takes these; none only at the end; a failure takes nothing
abbrev pub Reads : {E : Type 0} → SourceState → SourceState → List ℕ → Result ℕ E → Type 0
Reads before now buffer result =
    MatchResult result (λ n. (n ≤ length buffer) × Consumes before.left now.left (take n buffer) × (n ≡ 0 → IsAtEnd before.left))
    (λ _. Consumes before.left now.left [])

-- what was written grew by these bytes, where it is told afterwards
abbrev pub Appended : Option (List ℕ) → Option (List ℕ) → List ℕ → Type 0
Appended before None bytes = ⊤
Appended None (Some now) bytes = ⊥
Appended (Some before) (Some now) bytes = now ≡ before ++ bytes

-- a write appends the first bytes of the piece, at least one; a failure appends nothing
abbrev pub Writes : {E : Type 0} → SinkState → SinkState → List ℕ → Result ℕ E → Type 0
Writes before now piece result =
    MatchResult result (λ n. (0 < n) × (n ≤ length piece) × Appended before.written now.written (take n piece))
    (λ _. Appended before.written now.written [])

-- it is the same sink, and where the answer is good, nothing of its own was left behind the bytes that was not before
pub record IsSameSink {T E : Type 0} (before now : SinkState) (result : Result T E) : Type 0 where
  pub same : now.home ≡ before.home
  pub ok : OnOk result (now.torn ≡ before.torn)

-- a proper front of the text was written: something of it was not
pub record AppendedProperFront (before now : Option (List ℕ)) (text : List ℕ) : Type 0 where
  pub front : List ℕ
  pub back : List ℕ
  pub whole : text ≡ front ++ back
  pub proper : 0 < length back
  pub written : Appended before now front

-- the whole text is written, or a proper front of it at a failure
abbrev pub WritesAll : {T E : Type 0} → SinkState → SinkState → List ℕ → Result T E → Type 0
WritesAll before now text result =
    MatchResult result (λ _. Appended before.written now.written text) (λ _. AppendedProperFront before.written now.written text)
