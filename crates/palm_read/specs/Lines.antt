-- The lines of a text: a line feed ends a line, and bytes behind the last one are a line where there are any.
use Rattle.std.specs.Prelude.{◌≡◌, ◌≢◌, ℕ, ◌==◌, ◌<◌, ◌≤◌, ◌+◌, ◌-◌, length, take, drop, slice_range, List, [], ◌∷◌, ◌++◌, map, flat_map, All, slice_index, if◌then◌else◌}

-- a line with its line feed
abbrev pub ended : List ℕ → List ℕ
ended line = line ++ 10 ∷ []

-- no byte is a line feed
abbrev pub HasNoFeed : List ℕ → Type 0
HasNoFeed bytes = All (λ b. b ≢ 10) bytes

-- the text is these lines, each with its line feed, and then a rest without one
pub record Cuts (text : List ℕ) (lines : List (List ℕ)) (rest : List ℕ) : Type 0 where
  pub whole : text ≡ flat_map ended lines ++ rest
  pub unbroken : All HasNoFeed lines
  pub unfinished : HasNoFeed rest

-- one carriage return at the end belongs to the line's end
abbrev pub without_return : List ℕ → List ℕ
without_return line = if slice_index line (length line - 1) == 13 then take (length line - 1) line else line

-- the bytes behind the last line feed are a line where there are any
abbrev pub last_line : List ℕ → List (List ℕ)
last_line [] = []
last_line (b ∷ bytes) = without_return (b ∷ bytes) ∷ []

-- the lines of a text without their ends
pub record AreLines (text : List ℕ) (lines : List (List ℕ)) : Type 0 where
  pub ended_lines : List (List ℕ)
  pub rest : List ℕ
  pub cuts : Cuts text ended_lines rest
  pub all : lines ≡ map without_return ended_lines ++ last_line rest

-- from a place on, the text is bytes without a line feed, and then a line feed at the end
pub record IsNextFeed (text : List ℕ) (from end : ℕ) : Type 0 where
  pub from_on : from ≤ end
  pub within : end < length text
  pub line : drop from text ≡ ended (slice_range text from end) ++ drop (end + 1) text
  pub unbroken : HasNoFeed (slice_range text from end)

-- the text from a place on has this line first, and then the lines of the text from the next place on
pub record IsNextLine (text : List ℕ) (from : ℕ) (line : List ℕ) (next : ℕ) : Type 0 where
  pub further : from < next
  pub within : next ≤ length text
  pub before : (lines : List (List ℕ)) → AreLines (drop next text) lines → AreLines (drop from text) (line ∷ lines)
