-- What is answered to a step by a constraint, and to the wipe of a variable.
use Rattle.std.specs.Prelude.{◌≡◌, ℕ, ℤ, ◌<◌, ◌⊎◌, List, [], ◌∷◌, length, Any, Result, Ok, Err, Some, slice_get}
use Rattle.palm_base.specs.First.{IsFirst, IsNone}
use Rattle.palm_base.specs.declared.terms.Pair.{Pair}
use Rattle.palm_book.specs.Book.{Contents, HasConstraint, HasVariable}
use Rattle.palm_book.specs.Named.{IsDeclared, IsPair, IsVariable}
use Rattle.palm_book.specs.declared.book.BookCon.{BookCon}
use Rattle.palm_claim.specs.Step.{IsReached, IsRight}
use Rattle.palm_claim.specs.declared.verdict.Cause.{Cause}
use Rattle.palm_claim.specs.declared.verdict.Cause.TheVariants.{Misdeclared, Beyond, Unproved, NotRight, NotReached}
use Rattle.palm_claim.specs.declared.verdict.Claim.TheVariants.{Conflict}

-- the causes of a phrase that may stand there, in the order in which they are looked for
abbrev pub of_phrases : List Cause
of_phrases = Misdeclared ∷ Beyond ∷ Unproved ∷ NotRight ∷ NotReached ∷ []

-- which of them a step of a pair by a constraint meets
abbrev pub MeetsStep : Contents → List Pair → List ℕ → ℤ → List ℕ → List ℕ → Cause → Type 0
MeetsStep book proved name value by reasons Misdeclared = (IsDeclared book.variables name value → ⊥) ⊎ (HasConstraint book by → ⊥)
MeetsStep book proved name value by reasons Unproved = Any (λ k. length proved < k) reasons
MeetsStep book proved name value by reasons NotRight = (pair : Pair) × IsPair book.variables name value pair × (IsRight book proved pair by reasons → ⊥)
MeetsStep book proved name value by reasons _ = ⊥

-- and the wipe of a variable
abbrev pub MeetsWipe : Contents → List Pair → List ℕ → Cause → Type 0
MeetsWipe book proved name Misdeclared = HasVariable book name → ⊥
MeetsWipe book proved name NotReached = (x : ℕ) × IsVariable book.variables name x × (IsReached book proved (Conflict x) → ⊥)
MeetsWipe book proved name _ = ⊥

-- the step of the declared pair is right by the one constraint with the name, which stands at this place, and meets no cause
pub record IsRightAt (book : Contents) (proved : List Pair) (pair : Pair) (by : List ℕ) (reasons : List ℕ) (place : ℕ) : Type 0 where
  pub owner : BookCon
  pub at : slice_get book.constraints place ≡ Some owner
  pub named : owner.name ≡ by
  pub right : IsRight book proved pair by reasons
  pub none : (name : List ℕ) (value : ℤ) → IsPair book.variables name value pair → IsNone (MeetsStep book proved name value by reasons) of_phrases

-- so it is, or this is its first cause
abbrev pub ChecksStep : Contents → List Pair → Pair → List ℕ → List ℕ → Result ℕ Cause → Type 0
ChecksStep book proved pair by reasons (Ok place) = IsRightAt book proved pair by reasons place
ChecksStep book proved pair by reasons (Err cause) = (name : List ℕ) (value : ℤ) → IsPair book.variables name value pair → IsFirst (MeetsStep book proved name value by reasons) of_phrases cause

-- the variable with the name is wiped, which meets no cause, or this is the first cause of what says so
abbrev pub ChecksWiped : Contents → List Pair → List ℕ → Result ℕ Cause → Type 0
ChecksWiped book proved name (Ok x) = IsVariable book.variables name x × IsReached book proved (Conflict x) × IsNone (MeetsWipe book proved name) of_phrases
ChecksWiped book proved name (Err cause) = IsFirst (MeetsWipe book proved name) of_phrases cause
