-- What the lines of a certificate have said so far, which lines may follow, and what each adds.
use Rattle.std.specs.Prelude.{◌≡◌, ℕ, List, [], ◌∷◌, ◌++◌, ⊤}
use Rattle.palm_base.specs.declared.terms.Pair.{Pair}
use Rattle.palm_book.specs.Book.{Contents}
use Rattle.palm_book.specs.Named.{IsPair, IsVariable}
use Rattle.palm_claim.specs.Own.{Books, Order}
use Rattle.palm_claim.specs.declared.statement.CertificatePhrase.{CertificatePhrase}
use Rattle.palm_claim.specs.declared.statement.CertificatePhrase.TheVariants.{Header, Step, ValueClaim, ConflictClaim, End}
use Rattle.palm_claim.specs.declared.statement.Stage.{Stage}
use Rattle.palm_claim.specs.declared.statement.Stage.TheVariants.{Unopened, Declaring, Listing, Proving, Claimed, Closed}
use Rattle.palm_claim.specs.declared.verdict.Claim.{Claim}
use Rattle.palm_claim.specs.declared.verdict.Claim.TheVariants.{Gone, Conflict}

-- a part of a certificate: how far it has come, its variables and constraints, and the pair that each step proved
pub record Draft : Type 0 where
  pub stage : Stage
  pub book : Contents
  pub proved : List Pair

-- nothing was said
abbrev pub blank : Draft
blank = record { stage = Unopened; book = record { variables = []; constraints = [] }; proved = [] }

-- the book of a draft, and the draft with a longer one behind a variable or a constraint
abbrev pub books : Books Draft
books = record {
  book = λ d. d.book;
  declared = λ d book. record d { book = book };
  listed = λ d book. record d { stage = Listing; book = book };
}

-- ---- the order of the lines

-- behind the header and before the claim
abbrev pub IsOpen : Stage → Type 0
IsOpen Declaring = ⊤
IsOpen Listing = ⊤
IsOpen Proving = ⊤
IsOpen _ = ⊥

-- a constraint may stand there: behind the header and before the steps
abbrev pub MayList : Stage → Type 0
MayList Declaring = ⊤
MayList Listing = ⊤
MayList _ = ⊥

-- the phrase may stand there: the header first, then steps and the claim behind what is listed, and the end
abbrev pub MayFollow : Stage → CertificatePhrase → Type 0
MayFollow stage Header = stage ≡ Unopened
MayFollow stage (Step name value by reasons) = IsOpen stage
MayFollow stage (ValueClaim name value) = IsOpen stage
MayFollow stage (ConflictClaim name) = IsOpen stage
MayFollow (Claimed claim) End = ⊤
MayFollow stage End = ⊥

abbrev pub order : Order Draft CertificatePhrase
order = record {
  MayDeclare = λ d. d.stage ≡ Declaring;
  MayList = λ d. MayList d.stage;
  MayFollow = λ d phrase. MayFollow d.stage phrase;
}

-- ---- what a line adds

abbrev pub with_step : Draft → Pair → Draft
with_step d pair = record d { stage = Proving; proved = d.proved ++ pair ∷ [] }

abbrev pub at_stage : Draft → Stage → Draft
at_stage d stage = record d { stage = stage }

-- the draft behind the phrase
abbrev pub Leads : Draft → CertificatePhrase → Draft → Type 0
Leads d Header e = e ≡ at_stage d Declaring
Leads d (Step name value by reasons) e = (pair : Pair) × IsPair d.book.variables name value pair × (e ≡ with_step d pair)
Leads d (ValueClaim name value) e = (pair : Pair) × IsPair d.book.variables name value pair × (e ≡ at_stage d (Claimed (Gone pair)))
Leads d (ConflictClaim name) e = (x : ℕ) × IsVariable d.book.variables name x × (e ≡ at_stage d (Claimed (Conflict x)))
Leads d End e = (claim : Claim) × (d.stage ≡ Claimed claim) × (e ≡ at_stage d (Closed claim))
