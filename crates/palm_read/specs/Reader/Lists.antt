-- Readers of names, values and rows, one after another.
use Rattle.std.specs.Prelude.{ℕ, zero, suc, ℤ, ◌==◌, nat_le, Option, Some, None, List, [], ◌∷◌, length, codes}
use Rattle.palm_read.specs.Token.{Lexeme}
use Rattle.palm_read.specs.Reader.Steps.{Reading, ◌>>=◌, when, choose, mark_at, name_at, integer_at}

-- items one after another, as long as there is one more; the number bounds how many steps this takes
unfoldable pub many : {A : Type 0} → (List Lexeme → Reading (Option A)) → ℕ → List Lexeme → Reading (List A)
many item zero tokens = None
many item (suc n) tokens = do
  next ← item tokens
  when next.0
      (λ a. do
        others ← many item n next.1
        Some (a ∷ others.0, others.1))
      (Some ([], next.1))

-- each item takes a token at least
unfoldable pub many_at : {A : Type 0} → (List Lexeme → Reading (Option A)) → List Lexeme → Reading (List A)
many_at item tokens = many item (suc (length tokens)) tokens

-- a name, where one is in front
unfoldable pub next_name : List Lexeme → Reading (Option (List ℕ))
next_name tokens = when (name_at tokens)
    (λ name. Some (Some name.0, name.1))
    (Some (None, tokens))

-- so many names or more
unfoldable pub names_at : ℕ → List Lexeme → Reading (List (List ℕ))
names_at least tokens = do
  names ← many_at next_name tokens
  choose (nat_le least (length names.0)) (Some names) None

-- a comma and a number, where a comma is in front
unfoldable pub next_value : List Lexeme → Reading (Option ℤ)
next_value tokens = when (mark_at (codes ",") tokens)
    (λ rest. do
      value ← integer_at rest
      Some (Some value.0, value.1))
    (Some (None, tokens))

-- numbers with commas between them, and then this sign
unfoldable pub values_at : List ℕ → List Lexeme → Reading (List ℤ)
values_at close tokens = when (mark_at close tokens)
    (λ rest. Some ([], rest))
    (do
      first ← integer_at tokens
      others ← many_at next_value first.1
      rest ← mark_at close others.1
      Some (first.0 ∷ others.0, rest))

-- a row of so many numbers in parentheses, where a parenthesis is in front
unfoldable pub next_row : ℕ → List Lexeme → Reading (Option (List ℤ))
next_row width tokens = when (mark_at (codes "(") tokens)
    (λ rest. do
      row ← values_at (codes ")") rest
      choose (length row.0 == width) (Some (Some row.0, row.1)) None)
    (Some (None, tokens))
