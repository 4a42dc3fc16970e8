-- Answers about the conflict of the empty variable.
use Rattle.std.proofs.Common.{◌≡◌, ℕ, false, List, inl, inr, refl}
use Rattle.std.proofs.lemmas.Bool.{cases_Bool}
use Rattle.palm_base.specs.declared.terms.Cid.{Cid}
use Rattle.palm_cert.specs.Certificate.{certificate_text}
use Rattle.palm_claim.specs.declared.verdict.Claim.TheVariants.{Conflict as ConflictClaim}
use Rattle.palm_lang.specs.Reply.{fixed_text}
use Rattle.palm_lang.specs.declared.reply.Fixed.TheVariants.{Consistent}
use Rattle.palm_lang.specs.declared.reply.Lead.TheVariants.{Conflict as ConflictLead}
use Rattle.palm_model.specs.Domains.{Domains}
use Rattle.palm_model.specs.State.{HasEmpty, present}
use Rattle.palm_session.specs.Answers.{HasConflict, IsAnswer, IsLowestEmpty, users_text}
use Rattle.palm_session.specs.State.{SessionState, IsState, has_empty}
use Rattle.palm_session.specs.declared.request.Question.TheVariants.{Conflict, CertConflict}
use Rattle.palm_session.proofs.LawsOfDomains.{present_domains, domains_empty, empty_at}
use Rattle.palm_session.proofs.cited.LawsOfStates.{domains_exist}

none_empty : (d : Domains) → (HasEmpty d → ⊥) → has_empty d ≡ false
none_empty d filled = elim (cases_Bool (has_empty d)) [ inl e ↦ absurd (filled (empty_at d e)) | inr e ↦ e ]

module _ (s : SessionState) (is : IsState s) where
  pub consistent : s.paused ≡ false → (HasEmpty (present s.engine) → ⊥) → IsAnswer s Conflict (fixed_text Consistent)
  consistent awake filled = (present s.engine, present_domains s is awake filled, inl (none_empty (present s.engine) filled, refl))

  pub conflicting : (users : List Cid) → HasEmpty (present s.engine) → HasConflict s users → IsAnswer s Conflict (users_text s.book ConflictLead users)
  conflicting users empty conflict = let d = domains_exist s is.held in (d.0, d.1, inr (domains_empty s d.0 is.held d.1 empty, users, conflict, refl))

  pub cert_consistent : s.paused ≡ false → (HasEmpty (present s.engine) → ⊥) → IsAnswer s CertConflict (fixed_text Consistent)
  cert_consistent awake filled = (present s.engine, present_domains s is awake filled, inl (none_empty (present s.engine) filled, refl))

  pub cert_conflicting : (x : ℕ) → IsLowestEmpty s x → IsAnswer s CertConflict (certificate_text s.book s.engine.log (ConflictClaim x))
  cert_conflicting x lowest = let d = domains_exist s is.held in (d.0, d.1, inr (domains_empty s d.0 is.held d.1 (x, lowest.empty), x, lowest, refl))
