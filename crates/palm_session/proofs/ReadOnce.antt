-- A line has one reading.
use Rattle.std.proofs.Common.{◌≡◌, List, ℕ, Some, subst}
use Rattle.palm_read.specs.Reading.{IsRead, IsRefusedBy}
use Rattle.palm_read.specs.declared.line.Line.{Line}
use Rattle.palm_read.specs.declared.line.Line.TheVariants.{Quit}
use Rattle.palm_read.specs.declared.mode.Mode.{Mode}
use Rattle.palm_read.specs.declared.mode.Mode.TheVariants.{One}
use Rattle.palm_read.specs.declared.parse.LineError.{LineError}
use Rattle.palm_read.specs.declared.parse.LineError.TheVariants.{NoMemory}
use Rattle.palm_lang.specs.declared.reply.Refusal.{Refusal}
use Rattle.palm_read.proofs.cited.Modes.{read_everywhere}
use Rattle.palm_read.proofs.cited.Parsing.{one_reading, read_not_refused}
use Rattle.palm_session.specs.Refusals.{refusal_of}
use Rattle.palm_session.specs.Replies.{GoesOn}

-- a line that says something else than `quit` does not end a session
pub goes_on_read : (mode : Mode) (bytes : List ℕ) (line : Line) → IsRead mode bytes line → (line ≡ Quit → ⊥) → GoesOn bytes
goes_on_read mode bytes line r other ends = other (one_reading mode One bytes line Quit r ends)

no_refusal : (error : LineError) (refusal : Refusal) → refusal_of error ≡ Some refusal → error ≡ NoMemory → ⊥
no_refusal error refusal some none = let e : refusal_of NoMemory ≡ Some refusal = subst (λ (x : LineError). refusal_of x ≡ Some refusal) none some in cc

-- a line that cannot be read does not end a session
pub goes_on_refused : (mode : Mode) (bytes : List ℕ) (error : LineError) (refusal : Refusal) → IsRefusedBy mode bytes error → refusal_of error ≡ Some refusal → GoesOn bytes
goes_on_refused mode bytes error refusal q some ends = no_refusal error refusal some (read_not_refused mode bytes Quit error (read_everywhere mode bytes Quit ends) q)

-- a line that was read is not refused
pub read_or_refused : (mode : Mode) (bytes : List ℕ) (line : Line) (error : LineError) (refusal : Refusal) → IsRead mode bytes line → IsRefusedBy mode bytes error → refusal_of error ≡ Some refusal → ⊥
read_or_refused mode bytes line error refusal read q some = no_refusal error refusal some (read_not_refused mode bytes line error read q)
