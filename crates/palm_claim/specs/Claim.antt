-- What a claim says of the constraints that a certificate lists.
use Rattle.std.specs.Prelude.{◌≡◌, ℤ, ◌<◌, List, [], map, length, Contains, ⊤}
use Rattle.palm_book.specs.Book.{Contents, initial_of}
use Rattle.palm_model.specs.Closure.{Explains}
use Rattle.palm_model.specs.Domains.{Domains, Has, values_of}
use Rattle.palm_model.specs.declared.constraint.Con.{Con}
use Rattle.palm_claim.specs.declared.verdict.Claim.{Claim}
use Rattle.palm_claim.specs.declared.verdict.Claim.TheVariants.{Gone, Conflict}
use Rattle.palm_claim.specs.declared.verdict.Verdict.{Verdict}
use Rattle.palm_claim.specs.declared.verdict.Verdict.TheVariants.{Accepted, Refused}

-- the listed constraints
abbrev pub constraints_of : Contents → List Con
constraints_of book = map (λ c. c.con) book.constraints

-- the claim is about a variable of the book
abbrev pub IsOver : Contents → Claim → Type 0
IsOver book (Gone pair) = pair.var < length book.variables
IsOver book (Conflict x) = x < length book.variables

-- what is accepted is about its own book
abbrev pub IsOverItsBook : Verdict → Type 0
IsOverItsBook (Accepted proved) = IsOver proved.book proved.claim
IsOverItsBook (Refused line cause) = ⊤

-- the listed constraints explain that the value is gone, or each value of the variable
abbrev pub IsExplained : Contents → Claim → Type 0
IsExplained book (Gone pair) = Explains (initial_of book) (Contains (constraints_of book)) pair.var pair.value
IsExplained book (Conflict x) = (x < length (initial_of book)) × ((v : ℤ) → Explains (initial_of book) (Contains (constraints_of book)) x v)

-- the domains do not have the value, or the variable has none in them
abbrev pub HoldsIn : Domains → Claim → Type 0
HoldsIn d (Gone pair) = Has d pair.var pair.value → ⊥
HoldsIn d (Conflict x) = (x < length d) × (values_of d x ≡ [])
