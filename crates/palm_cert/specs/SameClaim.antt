-- When what a certificate has proved is the claim that was to be made. A certificate numbers its own variables and
-- constraints, so both are compared by name.
use Rattle.std.specs.Prelude.{◌≡◌, ℕ, List, map, Contains}
use Rattle.palm_book.specs.Book.{Contents, BookVar}
use Rattle.palm_book.specs.Named.{named}
use Rattle.palm_book.specs.declared.book.BookCon.{BookCon}
use Rattle.palm_claim.specs.Claim.{IsOver}
use Rattle.palm_claim.specs.declared.verdict.Claim.{Claim}
use Rattle.palm_claim.specs.declared.verdict.Proved.{Proved}
use Rattle.palm_cert.specs.Readable.{claim_statement}
use Rattle.palm_read.specs.declared.line.Shape.{Shape}

-- the names of constraints, in order
abbrev pub names_of_constraints : List BookCon → List (List ℕ)
names_of_constraints constraints = map (λ c. c.name) constraints

-- what they say of the variables by name, in order
abbrev pub shapes_of : List BookVar → List BookCon → List Shape
shapes_of variables constraints = map (λ c. named variables c.con) constraints

-- the claim says the same of a variable with the same name, and of the same value; the variables are some of the book's,
-- with their values; and the constraints have the names of these, in order, and say what these say
pub record IsSameClaim (book : Contents) (constraints : List BookCon) (claim : Claim) (proved : Proved) : Type 0 where
  pub claims : claim_statement proved.book.variables proved.claim ≡ claim_statement book.variables claim
  pub over : IsOver proved.book proved.claim
  pub variables : (e : BookVar) → Contains proved.book.variables e → Contains book.variables e
  pub names : names_of_constraints proved.book.constraints ≡ names_of_constraints constraints
  pub shapes : shapes_of proved.book.variables proved.book.constraints ≡ shapes_of book.variables constraints
