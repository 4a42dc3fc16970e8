-- The certificates that `cert` prints are accepted, in every session.
use Rattle.std.proofs.Common.{◌≡◌, ℕ, ℤ, ◌<◌, List, length, Contains, false, inl, inr, refl, sym, ◌∙◌, subst}
use Rattle.std.proofs.lemmas.Bool.{cases_Bool, false≢true}
use Rattle.palm_model.specs.Domains.{Domains, Has, is_among}
use Rattle.palm_model.specs.Log.{log_pairs}
use Rattle.palm_model.proofs.cited.Without.{pair_of, among_member, has_without, member_among}
use Rattle.palm_book.specs.Book.{initial_of, name_of}
use Rattle.palm_base.specs.declared.terms.Pair.{Pair}
use Rattle.palm_book.specs.Named.{IsPair}
use Rattle.palm_read.specs.declared.line.Line.TheVariants.{Cert as CertLine}
use Rattle.palm_session.specs.declared.request.Question.TheVariants.{Cert, CertConflict}
use Rattle.palm_session.specs.declared.request.Request.{Request}
use Rattle.palm_session.specs.declared.request.Request.TheVariants.{Ask}
use Rattle.palm_session.specs.Requests.{IsAdmitted}
use Rattle.palm_cert.specs.Certificate.{certificate_text}
use Rattle.palm_cert.specs.Needs.{CanClaim}
use Rattle.palm_events.specs.Scoped.{HasScopedReasons}
use Rattle.palm_cert.proofs.cited.Accepted.{certificate_accepted}
use Rattle.palm_cert.proofs.cited.Logged.{claim_declared}
use Rattle.palm_cert.proofs.cited.Readable.{readable}
use Rattle.palm_claim.specs.declared.verdict.Claim.{Claim}
use Rattle.palm_claim.specs.declared.verdict.Claim.TheVariants.{Gone, Conflict as ConflictClaim}
use Rattle.palm_session.specs.State.{SessionState, IsState, AreDomains, IsContradiction}
use Rattle.palm_session.specs.Refusals.{IsUndeclared}
use Rattle.palm_session.specs.Answers.{IsAnswer, SaysCert, SaysCertConflict, Accepts, waits, contradicts, says}
use Rattle.palm_cert.specs.Accepted.{IsAccepted}
use Rattle.palm_session.specs.Told.{ToldCert, ToldCertConflict}
use Rattle.palm_session.specs.Told.ToldCert.{cert_paused, cert_contradiction, cert_present, cert_accepted}
use Rattle.palm_session.specs.Told.ToldCertConflict.{claim_paused, claim_none, claim_accepted}
use Rattle.palm_session.proofs.cited.LawsOfAnswers.{awake_for, query_same}
use Rattle.palm_session.proofs.LawsOfDomains.{printed_domains}
use Rattle.palm_session.proofs.cited.LawsOfStates.{domains_once}
use Rattle.palm_session.proofs.Requesting.{declared_value}

-- what is printed for a claim that holds is accepted
accepts : (s : SessionState) → IsState s → HasScopedReasons s.engine → (claim : Claim) → CanClaim s.engine claim → (text : List ℕ) → text ≡ certificate_text s.book s.engine.log claim
    → IsAccepted s.book s.engine.log claim text
accepts s is scoped claim can text printed =
    let held = is.held in
    let read = readable s.engine s.book claim held.book held.valid held.initial held.active can scoped in
    let is_accepted = certificate_accepted s.engine s.book claim held.book held.valid held.initial held.active can read in
    subst (λ (z : List ℕ). IsAccepted s.book s.engine.log claim z) (sym printed) is_accepted

-- a declared value that is not present was removed
removed : (s : SessionState) → IsState s → s.paused ≡ false → (IsContradiction s → ⊥) → (d : Domains) (x : ℕ) (value : ℤ) → AreDomains s d → Has (initial_of s.book) x value → (Has d x value → ⊥)
    → Contains (log_pairs s.engine.log) (pair_of x value)
removed s is awake none d x value are has missing =
    let same = domains_once s d _ are (printed_domains s is awake none) in
    let pairs = log_pairs s.engine.log in
    elim (cases_Bool (is_among pairs x value)) [
      | inl t ↦ among_member pairs x value t
      | inr f ↦ absurd (missing (subst (λ (z : Domains). Has z x value) (sym same)
          (has_without s.engine.initial pairs x value (subst (λ (z : Domains). Has z x value) (sym is.held.initial) has) (λ m. false≢true (sym f ∙ member_among pairs x value m)))))
    ]

says_cert : (s : SessionState) → IsState s → HasScopedReasons s.engine → s.paused ≡ false → (IsContradiction s → ⊥) → (name : List ℕ) (value : ℤ) (reply : List ℕ) (d : Domains) (x : ℕ) → AreDomains s d → x < length s.book.variables → name_of s.book.variables x ≡ name
    → Has (initial_of s.book) x value → SaysCert s d (pair_of x value) reply → ToldCert s name value reply
says_cert s is scoped awake none name value reply d x are lt named has (inl p) = cert_present x d (record { declared = lt; named = named }) are p.0 p.1
says_cert s is scoped awake none name value reply d x are lt named has (inr p) =
    cert_accepted x lt named (accepts s is scoped (Gone (pair_of x value)) (removed s is awake none d x value are has p.0) reply p.1)

asked_cert : (s t : SessionState) (name reply : List ℕ) (value : ℤ) (pair : Pair) → IsState s → HasScopedReasons s.engine → (IsUndeclared s name value → ⊥) → IsPair s.book.variables name value pair
    → Accepts s (Ask (Cert pair)) reply t → ToldCert s name value reply
asked_cert s t name reply value pair is scoped asks found (waits w) = cert_paused w.paused refl
asked_cert s t name reply value pair is scoped asks found (contradicts effect goes does c) =
    cert_contradiction (subst IsContradiction (query_same s does.0 t effect does.1 does.2) c.contradiction) refl
asked_cert s t name reply value pair is scoped asks found (says effect goes does quiet said) =
    let same : t ≡ s = query_same s does.0 t effect does.1 does.2 in
    let here : IsAnswer s (Cert pair) reply = subst (λ (z : SessionState). IsAnswer z (Cert pair) reply) same said in
    let calm : IsContradiction s → ⊥ = λ c. quiet (record { contradiction = subst IsContradiction (sym same) c; contradictable = tt }) in
    let at : SaysCert s here.0 (pair_of pair.var value) reply = subst (λ (v : ℤ). SaysCert s here.0 (pair_of pair.var v) reply) found.gives here.2 in
    says_cert s is scoped (awake_for s (Ask (Cert pair)) tt goes) calm name value reply here.0 pair.var here.1 found.variable.declared found.variable.named
    (declared_value s name value pair.var asks found.variable.declared found.variable.named) at

pub told_cert : (s t : SessionState) (name reply : List ℕ) (value : ℤ) (request : Request) → IsState s → HasScopedReasons s.engine → IsAdmitted s (CertLine name value) request → Accepts s request reply t → ToldCert s name value reply
told_cert s t name reply value request is scoped a h =
    let found = a.requests in
    asked_cert s t name reply value found.0 is scoped a.none.1.1.1.1.1.0 found.1 (subst (λ (r : Request). Accepts s r reply t) found.2 h)

says_conflict : (s : SessionState) → IsState s → HasScopedReasons s.engine → (d : Domains) (reply : List ℕ) → AreDomains s d → SaysCertConflict s d reply → ToldCertConflict s reply
says_conflict s is scoped d reply are (inl p) = claim_none d are p.0 p.1
says_conflict s is scoped d reply are (inr p) =
    let held = is.held in
    let empty = p.2.empty in
    claim_accepted p.1 (claim_declared s.engine s.book held.valid held.initial held.active (ConflictClaim p.1) empty) (accepts s is scoped (ConflictClaim p.1) empty reply p.3)

pub told_cert_conflict : (s t : SessionState) (reply : List ℕ) → IsState s → HasScopedReasons s.engine → Accepts s (Ask CertConflict) reply t → ToldCertConflict s reply
told_cert_conflict s t reply is scoped (waits w) = claim_paused w.paused refl
told_cert_conflict s t reply is scoped (contradicts effect goes does c) = absurd c.contradictable
told_cert_conflict s t reply is scoped (says effect goes does quiet said) =
    let same : t ≡ s = query_same s does.0 t effect does.1 does.2 in
    let here : IsAnswer s CertConflict reply = subst (λ (z : SessionState). IsAnswer z CertConflict reply) same said in
    says_conflict s is scoped here.0 reply here.1 here.2
