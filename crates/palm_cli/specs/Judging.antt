-- What the line of a verdict is written by.
use Rattle.std.specs.Prelude.{◌≡◌, ℕ, List}
use Rattle.palm_base.specs.Streams.{SinkState, Appended, AppendedProperFront, Rose}
use Rattle.palm_cli.specs.Verdicts.{IsTold}
use Rattle.palm_cli.specs.declared.words.Evidence.{Evidence}
use Rattle.palm_cli.specs.declared.status.Status.{Status}
use Rattle.palm_cli.specs.declared.status.Status.TheVariants.{Done, Refused, WriteFault, NoMemory}

-- the line of the verdict was written, or a front of it at a failed write, or nothing for want of memory
abbrev pub WritesVerdict : Evidence → List ℕ → SinkState → SinkState → Status → Type 0
WritesVerdict evidence text before after Done =
    (after.faults ≡ before.faults) × (line : List ℕ) × IsTold evidence text line Done × Appended before.written after.written line
WritesVerdict evidence text before after Refused =
    (after.faults ≡ before.faults) × (line : List ℕ) × IsTold evidence text line Refused × Appended before.written after.written line
WritesVerdict evidence text before after WriteFault =
    Rose before.faults after.faults × (line : List ℕ) × (told : Status) × IsTold evidence text line told × AppendedProperFront before.written after.written line
WritesVerdict evidence text before after NoMemory = after ≡ before
WritesVerdict evidence text before after _ = ⊥
