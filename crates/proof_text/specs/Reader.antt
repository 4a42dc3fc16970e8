-- Readers of the forms that only proofs have. That they read just these forms is proved of them.
use Rattle.std.specs.Prelude.{ℕ, Bool, Option, Some, None, List, codes}
use Rattle.palm_read.specs.Piece.{digits_number}
use Rattle.palm_read.specs.Reader.Lists.{many_at, names_at}
use Rattle.palm_read.specs.Reader.Steps.{Reading, ◌>>=◌, when, choose, token_at, keyword_at, mark_at, name_at}
use Rattle.palm_read.specs.Token.{Lexeme}
use Rattle.palm_read.specs.declared.tokens.TokenKind.TheVariants.{Digits}
use Rattle.palm_claim.specs.Reader.{header_at, is_number, reasons_at, value_at}
use Rattle.palm_claim.specs.declared.ground.Ground.{Ground}
use Rattle.palm_claim.specs.declared.ground.Ground.TheVariants.{By, Assumed, OfLemma}
use Rattle.proof_text.specs.declared.statement.NamedPair.{NamedPair}
use Rattle.proof_text.specs.declared.statement.ProofPhrase.{ProofPhrase}
use Rattle.proof_text.specs.declared.statement.ProofPhrase.TheVariants.{Header, Lemma, Step, Wipe, Users, End}

-- ---- grounds

abbrev pub is_lemma_number : ℕ → Bool
is_lemma_number k = is_number 18446744073709551615 k

-- the number of a lemma
unfoldable pub lemma_number_at : List Lexeme → Reading ℕ
lemma_number_at tokens = do
  digits ← token_at Digits tokens
  choose (is_lemma_number (digits_number digits.0)) (Some (digits_number digits.0, digits.1)) None

-- a constraint's name, and the reasons
unfoldable pub by_at : List Lexeme → Reading Ground
by_at tokens = do
  name ← name_at tokens
  reasons ← reasons_at name.1
  Some (By name.0 reasons.0, reasons.1)

unfoldable pub of_lemma_at : List Lexeme → Reading Ground
of_lemma_at tokens = do
  rest ← keyword_at (codes "lemma") tokens
  number ← lemma_number_at rest
  Some (OfLemma number.0, number.1)

unfoldable pub ground_at : List Lexeme → Reading Ground
ground_at tokens =
    when (keyword_at (codes "by") tokens) by_at
    (when (keyword_at (codes "assume") tokens) (λ rest. Some (Assumed, rest))
    (of_lemma_at tokens))

-- ---- forms

-- a name, `=` and a value, where a name is in front
unfoldable pub next_pair : List Lexeme → Reading (Option NamedPair)
next_pair tokens = when (name_at tokens)
    (λ name. do
      rest ← mark_at (codes "=") name.1
      value ← value_at rest
      Some (Some (record { name = name.0; value = value.0 }), value.1))
    (Some (None, tokens))

unfoldable pub lemma_at : List Lexeme → Reading ProofPhrase
lemma_at tokens = do
  pairs ← many_at next_pair tokens
  Some (Lemma pairs.0, pairs.1)

unfoldable pub step_at : List Lexeme → Reading ProofPhrase
step_at tokens = do
  name ← name_at tokens
  value ← value_at name.1
  why ← ground_at value.1
  Some (Step name.0 value.0 why.0, why.1)

unfoldable pub wipe_at : List Lexeme → Reading ProofPhrase
wipe_at tokens = do
  name ← name_at tokens
  Some (Wipe name.0, name.1)

unfoldable pub users_at : List Lexeme → Reading ProofPhrase
users_at tokens = do
  names ← names_at 0 tokens
  Some (Users names.0, names.1)

unfoldable pub phrase_at : List Lexeme → Reading ProofPhrase
phrase_at tokens =
    when (keyword_at (codes "step") tokens) step_at
    (when (keyword_at (codes "lemma") tokens) lemma_at
    (when (keyword_at (codes "wipe") tokens) wipe_at
    (when (keyword_at (codes "none") tokens) users_at
    (when (keyword_at (codes "end") tokens) (λ rest. Some (End, rest))
    (do
      rest ← header_at (codes "proof") tokens
      Some (Header, rest))))))
