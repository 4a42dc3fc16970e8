-- Tokens: each is the longest that fits where it begins.
use Rattle.std.specs.Prelude.{◌≡◌, ℕ, zero, suc, ◌+◌, ◌≤◌, Bool, true, false, ◌&&◌, ◌||◌, ◌==◌, List, [], ◌∷◌, length, take, drop, slice_range, codes, All, Contains, Option, Some, None, ⊤, if◌then◌else◌}
use Rattle.std.specs.List.{prefix_len, list_any}
use Rattle.palm_base.specs.Numbers.{AreDigits}
use Rattle.palm_read.specs.Bytes.{is_digit, is_letter, is_word_byte, after_blanks}
use Rattle.palm_read.specs.declared.tokens.Token.{Token}
use Rattle.palm_read.specs.declared.tokens.TokenKind.{TokenKind}
use Rattle.palm_read.specs.declared.tokens.TokenKind.TheVariants.{Word, Digits, Sign, Other}

-- what a token is, and its bytes
pub record Lexeme : Type 0 where
  pub kind : TokenKind
  pub text : List ℕ

-- ---- the table of tokens

-- a letter or `_`, then letters, digits and `_`
abbrev pub IsWord : List ℕ → Type 0
IsWord [] = ⊥
IsWord (b ∷ bytes) = (is_letter b ≡ true) × All (λ c. is_word_byte c ≡ true) bytes

-- the signs of the language
abbrev pub signs : List (List ℕ)
signs =
    codes ".." ∷ codes "{" ∷ codes "}" ∷ codes "(" ∷ codes ")" ∷ codes "," ∷ codes ":" ∷ codes "*" ∷ codes "+" ∷ codes "-"
    ∷ codes "!=" ∷ codes "<=" ∷ codes ">=" ∷ codes "=" ∷ codes "<" ∷ codes ">" ∷ []

-- the text fits this kind of token; none fits the kind that is left for other bytes
abbrev pub Fits : TokenKind → List ℕ → Type 0
Fits Word text = IsWord text
Fits Digits text = AreDigits text
Fits Sign text = Contains signs text
Fits Other text = ⊥

-- it fits, and of all texts that fit at the front of these bytes none is longer
pub record IsLongest (bytes : List ℕ) (lexeme : Lexeme) : Type 0 where
  pub begins : take (length lexeme.text) bytes ≡ lexeme.text
  pub fits : Fits lexeme.kind lexeme.text
  pub longest : (kind : TokenKind) (n : ℕ) → n ≤ length bytes → Fits kind (take n bytes) → n ≤ length lexeme.text

-- no text fits at the front of these bytes, and it is their first byte
pub record IsNoToken (bytes : List ℕ) (lexeme : Lexeme) : Type 0 where
  pub kind : lexeme.kind ≡ Other
  pub first : lexeme.text ≡ take 1 bytes
  pub none : (kind : TokenKind) (n : ℕ) → Fits kind (take n bytes) → ⊥

-- ---- how a token is found

-- a byte that is a sign by itself
abbrev pub is_sign : ℕ → Bool
is_sign b = list_any (λ c. b == c) (codes "{}(),:*+-=<>")

-- two bytes that are one sign
abbrev pub are_sign : ℕ → ℕ → Bool
are_sign b c = (b == 46 && c == 46) || (c == 61 && (b == 33 || b == 60 || b == 62))

-- whether the first byte begins a sign of two bytes
abbrev pub begins_long_sign : ℕ → List ℕ → Bool
begins_long_sign b [] = false
begins_long_sign b (c ∷ bytes) = are_sign b c

-- what begins with this byte, before these bytes
unfoldable pub kind_at : ℕ → List ℕ → TokenKind
kind_at b bytes =
    if is_letter b then Word
    else (if is_digit b then Digits else (if begins_long_sign b bytes || is_sign b then Sign else Other))

-- how many bytes it takes behind its first
unfoldable pub more_at : ℕ → List ℕ → ℕ
more_at b bytes =
    if is_letter b then prefix_len is_word_byte bytes
    else (if is_digit b then prefix_len is_digit bytes else (if begins_long_sign b bytes then 1 else 0))

-- the token that begins with this byte
unfoldable pub lexeme_at : ℕ → List ℕ → Lexeme
lexeme_at b bytes = record { kind = kind_at b bytes; text = b ∷ take (more_at b bytes) bytes }

-- the tokens of a text that has no blank in front, where no more than n are asked for
abbrev pub front_tokens : ℕ → List ℕ → List Lexeme
front_tokens n [] = []
front_tokens zero (b ∷ bytes) = []
front_tokens (suc n) (b ∷ bytes) = lexeme_at b bytes ∷ front_tokens n (after_blanks (drop (more_at b bytes) bytes))

-- the tokens of a text: there are no more than it has bytes
unfoldable pub tokens_of : List ℕ → List Lexeme
tokens_of bytes = front_tokens (length bytes) (after_blanks bytes)

-- the token's kind, and its bytes in the text where it stands
abbrev pub lexeme_of : List ℕ → Token → Lexeme
lexeme_of bytes token = record { kind = token.kind; text = slice_range bytes token.start token.end }

-- the token is the first one from the place on: only blanks stand before it, and it is as long as one that begins there is
pub record IsFirstToken (bytes : List ℕ) (from : ℕ) (token : Token) : Type 0 where
  pub first : ℕ
  pub rest : List ℕ
  pub behind : from ≤ token.start
  pub skips : after_blanks (drop from bytes) ≡ drop token.start bytes
  pub begins : drop token.start bytes ≡ first ∷ rest
  pub kind : token.kind ≡ kind_at first rest
  pub ends : token.end ≡ token.start + (1 + more_at first rest)
  pub within : token.end ≤ length bytes

-- the token, and those behind it
abbrev pub tokens_left : List ℕ → Option Token → List Lexeme
tokens_left bytes None = []
tokens_left bytes (Some token) = lexeme_of bytes token ∷ tokens_of (drop token.end bytes)

-- the token is a part of the text, and digits are digits
pub record IsPart (bytes : List ℕ) (token : Token) : Type 0 where
  pub ordered : token.start ≤ token.end
  pub within : token.end ≤ length bytes
  pub digits : token.kind ≡ Digits → AreDigits (slice_range bytes token.start token.end)

abbrev pub StandsIn : List ℕ → Option Token → Type 0
StandsIn bytes None = ⊤
StandsIn bytes (Some token) = IsPart bytes token
