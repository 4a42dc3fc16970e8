-- What the mode and the limits ask of a line that was read, one after the other.
use Rattle.std.specs.Prelude.{◌≡◌, Result, Ok, Err, ⊤}
use Rattle.palm_read.specs.Limits.{IsInRange, HasNothing, HasRepeat}
use Rattle.palm_read.specs.Modes.{Allows}
use Rattle.palm_read.specs.declared.mode.Mode.{Mode}
use Rattle.palm_read.specs.declared.parse.LineError.{LineError}
use Rattle.palm_read.specs.declared.parse.LineError.TheVariants.{Form as NoForm, Range as OutOfRange, Empty, Repeated, NoMemory}
use Rattle.palm_read.specs.declared.line.Line.{Line}

-- what asking the mode and the limits of a line answers: the line, or the first of them that it breaks, unless memory ran
-- out; a line that the mode does not allow is of no form
abbrev pub PassesChecks : Mode → Line → Result Line LineError → Type 0
PassesChecks mode line (Ok kept) = (kept ≡ line) × Allows mode line × IsInRange line × (HasNothing line → ⊥) × (HasRepeat line → ⊥)
PassesChecks mode line (Err NoForm) = Allows mode line → ⊥
PassesChecks mode line (Err OutOfRange) = Allows mode line × (IsInRange line → ⊥)
PassesChecks mode line (Err Empty) = Allows mode line × IsInRange line × HasNothing line
PassesChecks mode line (Err Repeated) = Allows mode line × IsInRange line × (HasNothing line → ⊥) × HasRepeat line
PassesChecks mode line (Err NoMemory) = ⊤
PassesChecks mode line (Err _) = ⊥
