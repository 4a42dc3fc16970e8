-- What a sink with a prefix tells of the bytes that stand in the sink behind it.
use Rattle.std.specs.Prelude.{◌≡◌, ◌≢◌, ◌<◌, ◌≤◌, ℕ, zero, suc, ◌-◌, ◌==◌, nat_lt, Bool, true, false, List, [], ◌∷◌, ◌++◌, length, take, drop, ⊤, Option, Some, None, Result, Ok, Err, if◌then◌else◌}
use Rattle.palm_base.specs.Counts.{one_more}
use Rattle.palm_base.specs.Streams.{SinkState, Appended}
use Rattle.palm_hub.specs.Marked.{begins_line, marked}

-- ---- prefixes taken off

-- the bytes without the first so many, and without as many as a prefix has at the beginning of each further line
abbrev pub bare_from : ℕ → ℕ → List ℕ → List ℕ
bare_from size skip [] = []
bare_from size (suc skip) (b ∷ bytes) = bare_from size skip bytes
bare_from size zero (b ∷ bytes) = b ∷ bare_from size (if b == 10 then size else 0) bytes

-- the bytes without the prefixes of their lines
abbrev pub bare : List ℕ → List ℕ → List ℕ
bare prefix bytes = bare_from (length prefix) (length prefix) bytes

-- the bytes that were sent, as a text tells them that began with the base
abbrev pub sent_of : List ℕ → List ℕ → List ℕ → List ℕ
sent_of base prefix text = bare prefix (drop (length base) text)

-- the same where the bytes are told
abbrev pub told : Option (List ℕ) → List ℕ → Option (List ℕ) → Option (List ℕ)
told base prefix None = None
told None prefix (Some text) = None
told (Some base) prefix (Some text) = Some (sent_of base prefix text)

-- what a sink with a prefix is seen as: its bytes are those that were sent, its faults those of the sink behind it, and it is
-- the sink that stands for this reference
abbrev pub prefixed : Option (List ℕ) → List ℕ → ℕ → Bool → SinkState → SinkState
prefixed base prefix name torn inner = record { written = told base prefix inner.written; faults = inner.faults; home = name; torn = torn }

-- ---- prefixes put before

-- so many bytes of the prefix, where a line begins
abbrev pub begun : Bool → ℕ → List ℕ → List ℕ
begun true shown prefix = take shown prefix
begun false shown prefix = []

-- the base, the bytes that were sent with their prefixes, and so much of the prefix of a next line
abbrev pub rebuilt_from : List ℕ → List ℕ → List ℕ → ℕ → List ℕ
rebuilt_from base prefix sent shown = base ++ (marked prefix sent ++ begun (begins_line true sent) shown prefix)

-- a text that is told, built again of the bytes that it tells; nothing where the base is not told
abbrev pub rebuilt : Option (List ℕ) → List ℕ → ℕ → Option (List ℕ) → Option (List ℕ)
rebuilt base prefix shown None = None
rebuilt None prefix shown (Some text) = None
rebuilt (Some base) prefix shown (Some text) = Some (rebuilt_from base prefix (sent_of base prefix text) shown)

-- how much of the prefix of a line stands there: in a line all of it, and where one begins none, but what a failure left
abbrev pub due_at : Bool → List ℕ → Bool → ℕ → ℕ
due_at true prefix true shown = shown
due_at true prefix false shown = 0
due_at false prefix torn shown = length prefix

-- the same behind a text, where it is told
abbrev pub due : Option (List ℕ) → List ℕ → Bool → ℕ → Option (List ℕ) → ℕ
due base prefix torn shown None = shown
due None prefix torn shown (Some text) = shown
due (Some base) prefix torn shown (Some text) = due_at (begins_line true (sent_of base prefix text)) prefix torn shown

-- the count of faults did not rise
abbrev pub is_calm : ℕ → ℕ → Bool
is_calm before now = nat_lt now (one_more before)

-- ---- one write

-- no byte but the last is a line feed
abbrev pub IsInLine : List ℕ → Type 0
IsInLine [] = ⊤
IsInLine (b ∷ []) = ⊤
IsInLine (b ∷ c ∷ bytes) = (b ≢ 10) × IsInLine (c ∷ bytes)

-- some bytes at the front of the piece, of one line
pub record IsLineOf (line piece : List ℕ) : Type 0 where
  pub some : 0 < length line
  pub few : length line ≤ length piece
  pub front : line ≡ take (length line) piece
  pub in_line : IsInLine line

-- how much of the prefix stands in a line behind these bytes of it: none behind a line feed
abbrev pub shown_behind : List ℕ → List ℕ → ℕ
shown_behind prefix bytes = if begins_line false bytes then 0 else length prefix

-- of the prefix, of which so much stood there, so much stands there now
pub record Extends (before now : Option (List ℕ)) (prefix : List ℕ) (shown more : ℕ) : Type 0 where
  pub further : shown ≤ more
  pub few : more ≤ length prefix
  pub written : Appended before now (take (more - shown) (drop shown prefix))

-- the rest of the prefix was written, and then so many bytes of the line
pub record WritesBytes (before now : Option (List ℕ)) (prefix : List ℕ) (shown : ℕ) (line : List ℕ) (after count : ℕ) : Type 0 where
  pub some : 0 < count
  pub few : count ≤ length line
  pub shown_then : after ≡ shown_behind prefix (take count line)
  pub written : Appended before now (drop shown prefix ++ take count line)

-- bytes of a line were written behind the prefix, or a failure left so much of the prefix
abbrev pub WritesMarked : {E : Type 0} → Option (List ℕ) → Option (List ℕ) → List ℕ → ℕ → List ℕ → ℕ → Result ℕ E → Type 0
WritesMarked before now prefix shown line after (Ok count) = WritesBytes before now prefix shown line after count
WritesMarked before now prefix shown line after (Err _) = Extends before now prefix shown after
