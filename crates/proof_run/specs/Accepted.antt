-- When a text is accepted by the checker's definition as a proof that constraints of a book have no solution. A proof numbers
-- the constraints that it lists anew, so they are compared by name.
use Rattle.std.specs.Prelude.{◌≡◌, ⊤, ℕ, ◌+◌, List, [], ◌∷◌, map, filter}
use Rattle.palm_base.specs.declared.terms.Cid.{Cid}
use Rattle.palm_book.specs.Book.{Contents, user_name}
use Rattle.palm_book.specs.declared.book.BookCon.{BookCon}
use Rattle.palm_search.specs.declared.ending.SearchEnd.{SearchEnd}
use Rattle.palm_search.specs.declared.ending.SearchEnd.TheVariants.{NoSolution}
use Rattle.proof_text.specs.Verdict.{IsVerdict}
use Rattle.proof_text.specs.declared.verdict.ProofVerdict.TheVariants.{Accepted}

-- the constraints with the numbers n, n + 1 and so on
abbrev pub numbered_from : ℕ → List BookCon → List BookCon
numbered_from n [] = []
numbered_from n (c ∷ cs) = record c { number = n } ∷ numbered_from (n + 1) cs

-- the book as a proof lists it: its variables, and its active constraints, numbered from 1
abbrev pub as_listed : Contents → Contents
as_listed book = record { variables = book.variables; constraints = numbered_from 1 (filter (λ c. c.active) book.constraints) }

-- what is accepted is that constraints of this book have no solution, and these are those of the users
pub record IsAccepted (book : Contents) (users : List Cid) (text : List ℕ) : Type 0 where
  pub listed : List Cid
  pub verdict : IsVerdict text (Accepted (as_listed book) listed)
  pub same : map (user_name (as_listed book).constraints) listed ≡ map (user_name book.constraints) users

-- where the search found that there is no solution, its text is accepted
abbrev pub IsAcceptedAtNone : Contents → SearchEnd → List ℕ → Type 0
IsAcceptedAtNone book (NoSolution users) text = IsAccepted book users text
IsAcceptedAtNone book _ text = ⊤
