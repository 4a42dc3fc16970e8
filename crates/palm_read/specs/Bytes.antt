-- Which bytes are what.
use Rattle.std.specs.Prelude.{◌≡◌, ℕ, ◌≤◌, Bool, true, false, ◌&&◌, ◌||◌, ◌==◌, nat_le, List, [], ◌∷◌, length, All, if◌then◌else◌}
use Rattle.palm_read.specs.declared.limits.TheConstants.{MOST_LINE_BYTES}

-- a space or a tab
abbrev pub is_blank : ℕ → Bool
is_blank b = b == 32 || b == 9

abbrev pub is_digit : ℕ → Bool
is_digit b = nat_le 48 b && nat_le b 57

-- a letter or `_`
abbrev pub is_letter : ℕ → Bool
is_letter b = (nat_le 97 b && nat_le b 122) || (nat_le 65 b && nat_le b 90) || b == 95

-- a byte that goes on a word
abbrev pub is_word_byte : ℕ → Bool
is_word_byte b = is_letter b || is_digit b

-- the bytes from the first that is no blank on
abbrev pub after_blanks : List ℕ → List ℕ
after_blanks [] = []
after_blanks (b ∷ bytes) = if is_blank b then after_blanks bytes else b ∷ bytes

-- nothing, or `#` in front
abbrev pub is_note : List ℕ → Bool
is_note [] = true
is_note (b ∷ bytes) = b == 35

-- a line that gets no reply: blank, or `#` is its first byte that is no blank
pub record IsComment (line : List ℕ) : Type 0 where
  pub short : length line ≤ MOST_LINE_BYTES
  pub note : is_note (after_blanks line) ≡ true

-- a byte that may stand in a line that is no comment
abbrev pub is_plain : ℕ → Bool
is_plain b = (nat_le 32 b && nat_le b 126) || b == 9

-- a line of plain bytes that is no comment
pub record IsPlain (line : List ℕ) : Type 0 where
  pub short : length line ≤ MOST_LINE_BYTES
  pub says : is_note (after_blanks line) ≡ false
  pub plain : All (λ b. is_plain b ≡ true) line
