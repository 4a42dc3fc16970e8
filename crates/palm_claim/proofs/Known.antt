-- Every text has a verdict: whatever is asked of a line is known.
use Rattle.std.proofs.Common.{◌≡◌, ℕ, ◌<◌, List, length, inl, refl}
use Rattle.palm_base.specs.First.{IsNone}
use Rattle.palm_base.proofs.cited.Members.{Known, known_not}
use Rattle.palm_read.proofs.cited.KnownLimits.{above_known, known_either}
use Rattle.palm_claim.specs.Draft.{Draft, IsOpen, Leads, MayFollow, MayList, at_stage, blank, with_step}
use Rattle.palm_claim.specs.Step.{IsReached, IsRight}
use Rattle.palm_claim.specs.Judging.{in_order}
use Rattle.palm_claim.specs.Verdict.{HasUnproved, IsMisdeclared, IsNotReached, IsNotRight, IsVerdict, Meets, MeetsPhrase, certificates, of_certificates}
use Rattle.palm_claim.specs.declared.statement.CertificatePhrase.{CertificatePhrase}
use Rattle.palm_claim.specs.declared.statement.CertificatePhrase.TheVariants.{Header, Step, ValueClaim, ConflictClaim, End}
use Rattle.palm_claim.specs.declared.statement.Stage.{Stage}
use Rattle.palm_claim.specs.declared.statement.Stage.TheVariants.{Declaring, Listing, Proving, Claimed, Closed}
use Rattle.palm_claim.specs.declared.statement.Statement.{Statement}
use Rattle.palm_claim.specs.declared.statement.Statement.TheVariants.{Phrase}
use Rattle.palm_claim.specs.declared.verdict.Claim.{Claim}
use Rattle.palm_claim.specs.declared.verdict.Claim.TheVariants.{Gone, Conflict}
use Rattle.palm_claim.specs.declared.verdict.Cause.{Cause}
use Rattle.palm_claim.specs.declared.verdict.Verdict.{Verdict}
use Rattle.palm_book.proofs.cited.Naming.{some_known, variable_with}
use Rattle.palm_claim.proofs.cited.Judged.{has_verdict}
use Rattle.palm_claim.proofs.cited.Listing.{ArePhrasesKnown, NamesApart, is_known, leads_apart, meets_by_known, none_apart}
use Rattle.palm_claim.proofs.cited.Phrases.{are_phrases}
use Rattle.palm_claim.proofs.cited.Unique.{certificates_keep}
use Rattle.palm_claim.proofs.cited.Explained.{is_declaring, is_unopened}
use Rattle.palm_claim.proofs.cited.Asked.{known_never, settled, variable_known, constraint_known, declared_known, pair_with, right_known, reached_known, asked_of_pair, asked_of_variable}

-- ---- the order of the lines

list_known : (stage : Stage) → Known (MayList stage)
list_known Declaring = inl tt
list_known Listing = inl tt
list_known _ = known_never

open_known : (stage : Stage) → Known (IsOpen stage)
open_known Declaring = inl tt
open_known Listing = inl tt
open_known Proving = inl tt
open_known _ = known_never

follow_known : (stage : Stage) (s : CertificatePhrase) → Known (MayFollow stage s)
follow_known stage Header = is_unopened stage
follow_known stage (Step name value by reasons) = open_known stage
follow_known stage (ValueClaim name value) = open_known stage
follow_known stage (ConflictClaim name) = open_known stage
follow_known (Claimed c) End = inl tt
follow_known _ End = known_never

-- ---- declarations

misdeclared_known : (d : Draft) (s : CertificatePhrase) → Known (IsMisdeclared d s)
misdeclared_known d (Step name value by reasons) = known_either (known_not (declared_known d.book.variables name value)) (known_not (constraint_known d.book by))
misdeclared_known d (ValueClaim name value) = known_not (declared_known d.book.variables name value)
misdeclared_known d (ConflictClaim name) = known_not (variable_known d.book name)
misdeclared_known d _ = known_never

-- ---- steps and claims

unproved_known : (d : Draft) (s : CertificatePhrase) → Known (HasUnproved d s)
unproved_known d (Step name value by reasons) = some_known (λ k. length d.proved < k) reasons (λ k. above_known (length d.proved) k)
unproved_known d _ = known_never

not_right_known : (d : Draft) (s : CertificatePhrase) → NamesApart d.book → Known (IsNotRight d s)
not_right_known d (Step name value by reasons) apart =
    asked_of_pair d.book.variables name value (λ pair. IsRight d.book d.proved pair by reasons → ⊥) apart.variables (λ pair. known_not (right_known d.book d.proved pair by reasons))
not_right_known d _ apart = known_never

not_reached_known : (d : Draft) (s : CertificatePhrase) → NamesApart d.book → Known (IsNotReached d s)
not_reached_known d (ValueClaim name value) apart =
    asked_of_pair d.book.variables name value (λ pair. IsReached d.book d.proved (Gone pair) → ⊥) apart.variables (λ pair. known_not (reached_known d.book d.proved (Gone pair)))
not_reached_known d (ConflictClaim name) apart =
    asked_of_variable d.book.variables name (λ x. IsReached d.book d.proved (Conflict x) → ⊥) apart.variables (λ x. known_not (reached_known d.book d.proved (Conflict x)))
not_reached_known d _ apart = known_never

meets_known : (d : Draft) (s : CertificatePhrase) → NamesApart d.book → (cause : Cause) → Known (MeetsPhrase d s cause)
meets_known d s keeps =
    meets_by_known IsMisdeclared HasUnproved IsNotRight IsNotReached d s (misdeclared_known d s) (unproved_known d s) (not_right_known d s keeps) (not_reached_known d s keeps)

-- ---- a line

claimed_end : (stage : Stage) → ((MayFollow stage End → ⊥) → ⊥) → (claim : Claim) × (stage ≡ Claimed claim)
claimed_end (Claimed c) twice = (c, refl)
claimed_end _ twice = absurd (twice (λ h. h))

-- a phrase without a cause leads to a draft
leads_on : (d : Draft) (s : CertificatePhrase) → IsNone (Meets d (Phrase s)) in_order → (e : Draft) × Leads d s e
leads_on d Header none = (at_stage d Declaring, refl)
leads_on d (Step name value by reasons) none =
    let p = pair_with d.book.variables name value (settled (declared_known d.book.variables name value) (λ n. none.1.0 (inl n))) in
    (with_step d p.0, (p.0, p.1, refl))
leads_on d (ValueClaim name value) none =
    let p = pair_with d.book.variables name value (settled (declared_known d.book.variables name value) none.1.0) in
    (at_stage d (Claimed (Gone p.0)), (p.0, p.1, refl))
leads_on d (ConflictClaim name) none =
    let x = variable_with d.book.variables name (settled (variable_known d.book name) none.1.0) in
    (at_stage d (Claimed (Conflict x.0)), (x.0, record { declared = x.1; named = x.2 }, refl))
leads_on d End none = let c = claimed_end d.stage none.0 in (at_stage d (Closed c.0), (c.0, c.1, refl))

-- ---- texts

phrases_known : ArePhrasesKnown of_certificates (λ d. NamesApart d.book)
phrases_known = record {
  declares = λ d. is_declaring d.stage;
  lists = λ d. list_known d.stage;
  follows = λ d s. follow_known d.stage s;
  meets = meets_known;
  leads = λ d s apart none. leads_on d s none;
}

pub each_judged : (bytes : List ℕ) → (verdict : Verdict) × IsVerdict bytes verdict
each_judged bytes =
    has_verdict Draft (Statement CertificatePhrase) Verdict certificates (λ d. NamesApart d.book)
    (is_known of_certificates (λ d. NamesApart d.book) phrases_known are_phrases (λ d e line s apart says none leads. leads_apart of_certificates certificates_keep d e s apart none leads))
    blank bytes none_apart
