-- Families of texts that list variables and constraints as a session of version 2 does, and say all else in phrases of their own:
-- what all of them share is said here, and a family says what is its own.
use Rattle.std.specs.Prelude.{◌≡◌, ℕ, ◌≤◌, ◌⊎◌, length, Any, ⊤}
use Rattle.palm_book.specs.Book.{Contents, HasConstraint, HasVariable, with_listed, with_variable}
use Rattle.palm_book.specs.Named.{IsUnknownName, Resolves}
use Rattle.palm_book.specs.declared.limits.TheConstants.{MOST_CONSTRAINTS, MOST_VARIABLES}
use Rattle.palm_model.specs.declared.constraint.Con.{Con}
use Rattle.palm_read.specs.Domain.{values_in}
use Rattle.palm_read.specs.Limits.{IsBeyond, names_of}
use Rattle.palm_read.specs.declared.line.Line.TheVariants.{Var, Add}
use Rattle.palm_claim.specs.Judging.{Family}
use Rattle.palm_claim.specs.Phrases.{Phrases, Says}
use Rattle.palm_claim.specs.declared.statement.Statement.{Statement}
use Rattle.palm_claim.specs.declared.statement.Statement.TheVariants.{Comment, Variable, Constraint, Phrase}
use Rattle.palm_claim.specs.declared.verdict.Cause.{Cause}
use Rattle.palm_claim.specs.declared.verdict.Cause.TheVariants.{Malformed, Misdeclared, Beyond, Unproved, NotRight, NotReached}

-- what is a family's own: its phrases; of a draft, its book, whether a variable, a constraint or a phrase may stand there, and the
-- draft with a longer book behind a variable or a constraint; which other causes a phrase meets and what it leads to; and its
-- verdicts
pub record Own (D P V : Type 0) : Type 1 where
  pub phrases : Phrases P
  pub book : D → Contents
  pub MayDeclare : D → Type 0
  pub MayList : D → Type 0
  pub MayFollow : D → P → Type 0
  pub declared : D → Contents → D
  pub listed : D → Contents → D
  pub MeetsPhrase : D → P → Cause → Type 0
  pub LeadsPhrase : D → P → D → Type 0
  pub ending : D → ℕ → V
  pub refused : ℕ → Cause → V

-- a line that says this may stand there
abbrev pub MayStand : {D P V : Type 0} → Own D P V → D → Statement P → Type 0
MayStand own d Comment = ⊤
MayStand own d (Variable name domain) = own.MayDeclare d
MayStand own d (Constraint name shape) = own.MayList d
MayStand own d (Phrase phrase) = own.MayFollow d phrase

-- the order of the lines of a family, and the books of its drafts, which `own_by` puts together with the rest
pub record Order (D P : Type 0) : Type 1 where
  pub MayDeclare : D → Type 0
  pub MayList : D → Type 0
  pub MayFollow : D → P → Type 0

pub record Books (D : Type 0) : Type 0 where
  pub book : D → Contents
  pub declared : D → Contents → D
  pub listed : D → Contents → D

abbrev pub own_by : {D P V : Type 0} → Phrases P → Order D P → Books D → (D → P → Cause → Type 0) → (D → P → D → Type 0)
    → (D → ℕ → V) → (ℕ → Cause → V) → Own D P V
own_by phrases order books MeetsPhrase LeadsPhrase ending refused = record {
  phrases = phrases;
  book = books.book;
  MayDeclare = order.MayDeclare;
  MayList = order.MayList;
  MayFollow = order.MayFollow;
  declared = books.declared;
  listed = books.listed;
  MeetsPhrase = MeetsPhrase;
  LeadsPhrase = LeadsPhrase;
  ending = ending;
  refused = refused;
}

-- the conditions of what a phrase may meet other than that it may not stand there
abbrev pub MeetsBy : {D P : Type 0} → (Misdeclares LacksProof IsWrong IsEarly : D → P → Type 0) → D → P → Cause → Type 0
MeetsBy Misdeclares LacksProof IsWrong IsEarly d phrase Misdeclared = Misdeclares d phrase
MeetsBy Misdeclares LacksProof IsWrong IsEarly d phrase Unproved = LacksProof d phrase
MeetsBy Misdeclares LacksProof IsWrong IsEarly d phrase NotRight = IsWrong d phrase
MeetsBy Misdeclares LacksProof IsWrong IsEarly d phrase NotReached = IsEarly d phrase
MeetsBy Misdeclares LacksProof IsWrong IsEarly d phrase _ = ⊥

-- ---- causes

-- a name is declared a second time among its like, or a variable of a constraint is not declared; or so says the family of a phrase
abbrev pub IsMisdeclared : {D P V : Type 0} → Own D P V → D → Statement P → Type 0
IsMisdeclared own d Comment = ⊥
IsMisdeclared own d (Variable name domain) = HasVariable (own.book d) name
IsMisdeclared own d (Constraint name shape) = HasConstraint (own.book d) name ⊎ Any (IsUnknownName (own.book d).variables) (names_of shape)
IsMisdeclared own d (Phrase phrase) = own.MeetsPhrase d phrase Misdeclared

-- a limit on how many there may be is broken, the variables and constraints of the text counted
abbrev pub IsBeyondLimits : {D P V : Type 0} → Own D P V → D → Statement P → Type 0
IsBeyondLimits own d Comment = ⊥
IsBeyondLimits own d (Variable name domain) = IsBeyond (Var name domain) ⊎ (MOST_VARIABLES ≤ length (own.book d).variables)
IsBeyondLimits own d (Constraint name shape) = IsBeyond (Add name shape) ⊎ (MOST_CONSTRAINTS ≤ length (own.book d).constraints)
IsBeyondLimits own d (Phrase phrase) = ⊥

-- what only phrases meet
abbrev pub IsOfPhrase : {D P V : Type 0} → Own D P V → D → Cause → Statement P → Type 0
IsOfPhrase own d cause Comment = ⊥
IsOfPhrase own d cause (Variable name domain) = ⊥
IsOfPhrase own d cause (Constraint name shape) = ⊥
IsOfPhrase own d cause (Phrase phrase) = own.MeetsPhrase d phrase cause

-- the condition of a cause
abbrev pub Meets : {D P V : Type 0} → Own D P V → D → Statement P → Cause → Type 0
Meets own d statement Malformed = MayStand own d statement → ⊥
Meets own d statement Misdeclared = IsMisdeclared own d statement
Meets own d statement Beyond = IsBeyondLimits own d statement
Meets own d statement Unproved = IsOfPhrase own d Unproved statement
Meets own d statement NotRight = IsOfPhrase own d NotRight statement
Meets own d statement NotReached = IsOfPhrase own d NotReached statement

-- the draft behind a line that says this
abbrev pub Leads : {D P V : Type 0} → Own D P V → D → Statement P → D → Type 0
Leads own d Comment e = e ≡ d
Leads own d (Variable name domain) e = e ≡ own.declared d (with_variable (own.book d) name (values_in domain))
Leads own d (Constraint name shape) e = (con : Con) × Resolves (own.book d).variables shape con × (e ≡ own.listed d (with_listed (own.book d) name con))
Leads own d (Phrase phrase) e = own.LeadsPhrase d phrase e

-- the family
abbrev pub family_of : {D P V : Type 0} → Own D P V → Family D (Statement P) V
family_of own = record { Says = Says own.phrases; Meets = Meets own; Leads = Leads own; ending = own.ending; refused = own.refused }
