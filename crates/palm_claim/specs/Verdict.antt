-- The verdict on a text: the first line that has a cause, with its first cause, or that it is accepted.
use Rattle.std.specs.Prelude.{ℕ, ◌<◌, ◌⊎◌, List, length, Any}
use Rattle.palm_base.specs.declared.terms.Pair.{Pair}
use Rattle.palm_book.specs.Book.{Contents, HasConstraint, HasVariable}
use Rattle.palm_book.specs.Named.{IsDeclared, IsPair, IsVariable}
use Rattle.palm_claim.specs.Draft.{Draft, Leads, blank, books, order}
use Rattle.palm_claim.specs.Judging.{Family, IsVerdictFrom}
use Rattle.palm_claim.specs.Own as of_texts
use Rattle.palm_claim.specs.Own.{MeetsBy, Own, family_of, own_by}
use Rattle.palm_claim.specs.Statement.{phrases}
use Rattle.palm_claim.specs.Step.{IsReached, IsRightBy, nothing}
use Rattle.palm_claim.specs.declared.ground.Ground.TheVariants.{By}
use Rattle.palm_claim.specs.declared.statement.CertificatePhrase.{CertificatePhrase}
use Rattle.palm_claim.specs.declared.statement.CertificatePhrase.TheVariants.{Step, ValueClaim, ConflictClaim}
use Rattle.palm_claim.specs.declared.statement.Stage.{Stage}
use Rattle.palm_claim.specs.declared.statement.Stage.TheVariants.{Closed}
use Rattle.palm_claim.specs.declared.statement.Statement.{Statement}
use Rattle.palm_claim.specs.declared.verdict.Claim.TheVariants.{Gone, Conflict}
use Rattle.palm_claim.specs.declared.verdict.Cause.{Cause}
use Rattle.palm_claim.specs.declared.verdict.Cause.TheVariants.{NotReached}
use Rattle.palm_claim.specs.declared.verdict.Verdict.{Verdict}
use Rattle.palm_claim.specs.declared.verdict.Verdict.TheVariants.{Accepted, Refused}

-- ---- the causes of a phrase

-- a name or a value is not declared
abbrev pub IsMisdeclared : Draft → CertificatePhrase → Type 0
IsMisdeclared d (Step name value by reasons) = (IsDeclared d.book.variables name value → ⊥) ⊎ (HasConstraint d.book by → ⊥)
IsMisdeclared d (ValueClaim name value) = IsDeclared d.book.variables name value → ⊥
IsMisdeclared d (ConflictClaim name) = HasVariable d.book name → ⊥
IsMisdeclared d _ = ⊥

-- a reason's number is not below the step's own
abbrev pub HasUnproved : Draft → CertificatePhrase → Type 0
HasUnproved d (Step name value by reasons) = Any (λ k. length d.proved < k) reasons
HasUnproved d _ = ⊥

-- the step is not right
abbrev pub IsNotRight : Draft → CertificatePhrase → Type 0
IsNotRight d (Step name value by reasons) = (pair : Pair) × IsPair d.book.variables name value pair × (IsRightBy d.book nothing d.proved pair (By by reasons) → ⊥)
IsNotRight d _ = ⊥

-- the claim is not reached
abbrev pub IsNotReached : Draft → CertificatePhrase → Type 0
IsNotReached d (ValueClaim name value) = (pair : Pair) × IsPair d.book.variables name value pair × (IsReached d.book d.proved (Gone pair) → ⊥)
IsNotReached d (ConflictClaim name) = (x : ℕ) × IsVariable d.book.variables name x × (IsReached d.book d.proved (Conflict x) → ⊥)
IsNotReached d _ = ⊥

-- the condition of a cause, other than that it may not stand there
abbrev pub MeetsPhrase : Draft → CertificatePhrase → Cause → Type 0
MeetsPhrase d phrase cause = MeetsBy IsMisdeclared HasUnproved IsNotRight IsNotReached d phrase cause

-- ---- the text

-- the verdict where the lines have ended, and n is the number of a next one
abbrev pub ending : Stage → Contents → ℕ → Verdict
ending (Closed claim) book n = Accepted (record { claim = claim; book = book })
ending stage book n = Refused n NotReached

-- what is the own of certificates among all such texts
abbrev pub of_certificates : Own Draft CertificatePhrase Verdict
of_certificates = own_by phrases order books MeetsPhrase Leads (λ d n. ending d.stage d.book n) (λ n cause. Refused n cause)

-- certificates
abbrev pub certificates : Family Draft (Statement CertificatePhrase) Verdict
certificates = family_of of_certificates

-- the condition of a cause, of what a line says
abbrev pub Meets : Draft → Statement CertificatePhrase → Cause → Type 0
Meets d statement cause = of_texts.Meets of_certificates d statement cause

-- the verdict on a text
abbrev pub IsVerdict : List ℕ → Verdict → Type 0
IsVerdict bytes verdict = IsVerdictFrom certificates blank bytes verdict
