-- What a printer does to the bytes that it appends to, and the lines that are always printed alike.
use Rattle.std.specs.Prelude.{◌≡◌, ℕ, List, [], ◌++◌, Result, Ok, Err, codes}
use Rattle.palm_read.specs.declared.line.Line.{Line}
use Rattle.palm_read.specs.declared.line.Line.TheVariants.{Header, Domains, List as ListLine, Log, Conflict, MinimalConflict, Pause, Resume, Preferred, CertConflict, GuideNone, OrderNone, Quit}

-- the text stands behind what was there, or, where memory ran out, what was there is unchanged
abbrev pub Appends : {T E : Type 0} → List ℕ → List ℕ → List ℕ → Result T E → Type 0
Appends old new text (Ok _) = new ≡ old ++ text
Appends old new text (Err _) = new ≡ old

-- what was there is the front of what is there now
pub record Keeps (old new : List ℕ) : Type 0 where
  pub rest : List ℕ
  pub is : new ≡ old ++ rest

-- the text stands behind what was there, or, where memory ran out, what was there is still the front
abbrev pub Puts : {T E : Type 0} → List ℕ → List ℕ → List ℕ → Result T E → Type 0
Puts old new text (Ok _) = new ≡ old ++ text
Puts old new text (Err _) = Keeps old new

-- the words of a line that is always printed alike, and none of another line
abbrev pub bare_words : Line → List ℕ
bare_words Header = codes "palm 2"
bare_words Domains = codes "domains"
bare_words ListLine = codes "list"
bare_words Log = codes "log"
bare_words Conflict = codes "conflict"
bare_words MinimalConflict = codes "minimal conflict"
bare_words Pause = codes "pause"
bare_words Resume = codes "resume"
bare_words Preferred = codes "preferred"
bare_words CertConflict = codes "cert conflict"
bare_words GuideNone = codes "guide none"
bare_words OrderNone = codes "order none"
bare_words Quit = codes "quit"
bare_words _ = []
