-- Readers of the forms that only certificates have. That they read just these forms is proved of them.
use Rattle.std.specs.Prelude.{ℕ, ℤ, pos, ◌-ℤ◌, nat_le, Bool, true, false, not, int_lt, ◌&&◌, Option, Some, None, List, [], ◌∷◌, codes}
use Rattle.std.specs.Str.{bytes_eq}
use Rattle.palm_model.specs.declared.limits.TheConstants.{GREATEST_VALUE}
use Rattle.palm_read.specs.Piece.{digits_number}
use Rattle.palm_read.specs.Reader.Lists.{many_at}
use Rattle.palm_read.specs.Reader.Steps.{Reading, ◌>>=◌, when, choose, token_at, behind, keyword_at, mark_at, name_at, integer_at}
use Rattle.palm_read.specs.Token.{Lexeme}
use Rattle.palm_read.specs.declared.tokens.TokenKind.TheVariants.{Digits}
use Rattle.palm_claim.specs.declared.statement.CertificatePhrase.{CertificatePhrase}
use Rattle.palm_claim.specs.declared.statement.CertificatePhrase.TheVariants.{Header, Step, ValueClaim, ConflictClaim, End}

-- ---- numbers in their ranges

abbrev pub is_value : ℤ → Bool
is_value v = not (int_lt v (pos 0 -ℤ pos GREATEST_VALUE)) && not (int_lt (pos GREATEST_VALUE) v)

unfoldable pub value_at : List Lexeme → Reading ℤ
value_at tokens = do
  v ← integer_at tokens
  choose (is_value v.0) (Some v) None

-- a number counted from 1, up to this one
abbrev pub is_number : ℕ → ℕ → Bool
is_number most k = nat_le 1 k && nat_le k most

abbrev pub is_step_number : ℕ → Bool
is_step_number k = is_number 4294967295 k

-- a number, where one is in front
unfoldable pub next_number : List Lexeme → Reading (Option ℕ)
next_number tokens = when (token_at Digits tokens)
    (λ t. choose (is_step_number (digits_number t.0)) (Some (Some (digits_number t.0), t.1)) None)
    (Some (None, tokens))

abbrev pub has_some : List ℕ → Bool
has_some [] = false
has_some (k ∷ ks) = true

-- one number or more
unfoldable pub numbers_at : List Lexeme → Reading (List ℕ)
numbers_at tokens = do
  numbers ← many_at next_number tokens
  choose (has_some numbers.0) (Some numbers) None

-- ---- forms

-- `from` and numbers, or nothing
unfoldable pub reasons_at : List Lexeme → Reading (List ℕ)
reasons_at tokens = when (keyword_at (codes "from") tokens) numbers_at (Some ([], tokens))

unfoldable pub step_at : List Lexeme → Reading CertificatePhrase
step_at tokens = do
  name ← name_at tokens
  value ← value_at name.1
  rest ← keyword_at (codes "by") value.1
  by ← name_at rest
  reasons ← reasons_at by.1
  Some (Step name.0 value.0 by.0 reasons.0, reasons.1)

-- `conflict` and a name, or a name and a value
unfoldable pub claim_at : List Lexeme → Reading CertificatePhrase
claim_at tokens = do
  name ← name_at tokens
  when (name_at name.1)
      (λ second. choose (bytes_eq name.0 (codes "conflict")) (Some (ConflictClaim second.0, second.1)) None)
      (do
        value ← value_at name.1
        Some (ValueClaim name.0 value.0, value.1))

-- the header of a text of this kind
unfoldable pub header_at : List ℕ → List Lexeme → Option (List Lexeme)
header_at kind tokens = do
  first ← keyword_at (codes "palm") tokens
  second ← mark_at (codes "-") first
  third ← keyword_at kind second
  behind Digits (codes "1") third

unfoldable pub phrase_at : List Lexeme → Reading CertificatePhrase
phrase_at tokens =
    when (keyword_at (codes "step") tokens) step_at
    (when (keyword_at (codes "claim") tokens) claim_at
    (when (keyword_at (codes "end") tokens) (λ rest. Some (End, rest))
    (do
      rest ← header_at (codes "cert") tokens
      Some (Header, rest))))
