-- The verdict on a text: the first line that has a cause, with its first cause, or that it is accepted.
use Rattle.std.specs.Prelude.{◌≡◌, ℕ, ◌<◌, ◌⊎◌, List, [], ◌∷◌, length, map, All, Any, ⊤}
use Rattle.palm_base.specs.declared.terms.Pair.{Pair}
use Rattle.palm_book.specs.Book.{Contents, HasConstraint, HasVariable}
use Rattle.palm_book.specs.Named.{IsDeclared, IsPair, IsVariable}
use Rattle.palm_book.specs.declared.book.BookCon.{BookCon}
use Rattle.palm_claim.specs.Judging.{Family, IsVerdictFrom}
use Rattle.palm_claim.specs.Own as of_texts
use Rattle.palm_claim.specs.Own.{MeetsBy, Own, family_of, own_by}
use Rattle.palm_claim.specs.Step.{IsReached, IsRightBy}
use Rattle.palm_claim.specs.declared.ground.Ground.{Ground}
use Rattle.palm_claim.specs.declared.ground.Ground.TheVariants.{By, Assumed, OfLemma}
use Rattle.palm_claim.specs.declared.verdict.Cause.{Cause}
use Rattle.palm_claim.specs.declared.verdict.Cause.TheVariants.{NotReached}
use Rattle.palm_claim.specs.declared.verdict.Claim.TheVariants.{Conflict}
use Rattle.proof_text.specs.Draft.{Draft, Leads, blank, books, given_in, order}
use Rattle.proof_text.specs.Statement.{phrases}
use Rattle.proof_text.specs.Users.{AreUsed}
use Rattle.proof_text.specs.declared.statement.NamedPair.{NamedPair}
use Rattle.proof_text.specs.declared.statement.Stage.{Stage}
use Rattle.proof_text.specs.declared.statement.Stage.TheVariants.{Closed}
use Rattle.palm_claim.specs.declared.statement.Statement.{Statement}
use Rattle.proof_text.specs.declared.statement.ProofPhrase.{ProofPhrase}
use Rattle.proof_text.specs.declared.statement.ProofPhrase.TheVariants.{Lemma, Step, Wipe, Users}
use Rattle.proof_text.specs.declared.verdict.ProofVerdict.{ProofVerdict}
use Rattle.proof_text.specs.declared.verdict.ProofVerdict.TheVariants.{Accepted, Refused}

-- ---- the causes of a phrase

-- no variable stands twice
abbrev pub AreApart : List NamedPair → Type 0
AreApart [] = ⊤
AreApart (p ∷ ps) = All (λ q. p.name ≡ q.name → ⊥) ps × AreApart ps

-- the ground names an unknown constraint
abbrev pub IsUnknownGround : Draft → Ground → Type 0
IsUnknownGround d (By name reasons) = HasConstraint d.book name → ⊥
IsUnknownGround d _ = ⊥

-- a name or a value is not declared, or a variable stands twice in a lemma
abbrev pub IsMisdeclared : Draft → ProofPhrase → Type 0
IsMisdeclared d (Lemma pairs) = Any (λ p. IsDeclared d.book.variables p.name p.value → ⊥) pairs ⊎ (AreApart pairs → ⊥)
IsMisdeclared d (Step name value why) = (IsDeclared d.book.variables name value → ⊥) ⊎ IsUnknownGround d why
IsMisdeclared d (Wipe name) = HasVariable d.book name → ⊥
IsMisdeclared d (Users names) = Any (λ name. HasConstraint d.book name → ⊥) names
IsMisdeclared d _ = ⊥

-- the number of a step is not below the step's own, or that of a lemma is not below the lemma's own
abbrev pub IsUnprovedGround : Draft → Ground → Type 0
IsUnprovedGround d (By name reasons) = Any (λ k. length d.proved < k) reasons
IsUnprovedGround d Assumed = ⊥
IsUnprovedGround d (OfLemma number) = length d.lemmas < number

abbrev pub HasUnproved : Draft → ProofPhrase → Type 0
HasUnproved d (Step name value why) = IsUnprovedGround d why
HasUnproved d _ = ⊥

-- the step is not right
abbrev pub IsNotRight : Draft → ProofPhrase → Type 0
IsNotRight d (Step name value why) = (pair : Pair) × IsPair d.book.variables name value pair × (IsRightBy d.book (given_in d) d.proved pair why → ⊥)
IsNotRight d _ = ⊥

-- the last lemma has no pairs, and these are the names of the constraints that it uses, by rising number
pub record AreUsers (d : Draft) (names : List (List ℕ)) : Type 0 where
  pub free : d.begun.pairs ≡ []
  pub used : List BookCon
  pub are_used : AreUsed d.book d.lemmas d.begun used
  pub named : names ≡ map (λ c. c.name) used

-- the wipe or the end is not reached
abbrev pub IsNotReached : Draft → ProofPhrase → Type 0
IsNotReached d (Wipe name) = (x : ℕ) × IsVariable d.book.variables name x × (IsReached d.book d.proved (Conflict x) → ⊥)
IsNotReached d (Users names) = AreUsers d names → ⊥
IsNotReached d _ = ⊥

-- the condition of a cause, other than that it may not stand there
abbrev pub MeetsPhrase : Draft → ProofPhrase → Cause → Type 0
MeetsPhrase d phrase cause = MeetsBy IsMisdeclared HasUnproved IsNotRight IsNotReached d phrase cause

-- ---- the text

-- where no line is left and a next one would be the n-th, a proof whose end was read is accepted
abbrev pub ending : Stage → Contents → ℕ → ProofVerdict
ending (Closed users) book n = Accepted book users
ending stage book n = Refused n NotReached

-- what proofs have that other texts with variables and constraints do not
abbrev pub of_proofs : Own Draft ProofPhrase ProofVerdict
of_proofs = own_by phrases order books MeetsPhrase Leads (λ d n. ending d.stage d.book n) (λ n cause. Refused n cause)

-- their family
abbrev pub proofs : Family Draft (Statement ProofPhrase) ProofVerdict
proofs = family_of of_proofs

-- what a line says meets a cause, or does not
abbrev pub Meets : Draft → Statement ProofPhrase → Cause → Type 0
Meets d statement cause = of_texts.Meets of_proofs d statement cause

-- this is the verdict on the bytes
abbrev pub IsVerdict : List ℕ → ProofVerdict → Type 0
IsVerdict bytes verdict = IsVerdictFrom proofs blank bytes verdict
