-- No text has two verdicts: no line says two things, and none leads to two drafts.
use Rattle.std.proofs.Common.{◌≡◌, ℕ, List, refl, sym, ap, ◌∙◌}
use Rattle.palm_base.specs.declared.terms.Pair.{Pair}
use Rattle.palm_book.proofs.cited.Pairs.{pair_is, variable_is}
use Rattle.palm_claim.specs.Draft.{Draft, Leads, at_stage, blank, with_step}
use Rattle.palm_claim.specs.Verdict.{IsVerdict, certificates, of_certificates}
use Rattle.palm_claim.specs.declared.statement.CertificatePhrase.{CertificatePhrase}
use Rattle.palm_claim.specs.declared.statement.CertificatePhrase.TheVariants.{Header, Step, ValueClaim, ConflictClaim, End}
use Rattle.palm_claim.specs.declared.statement.Stage.{Stage}
use Rattle.palm_claim.specs.declared.statement.Stage.TheVariants.{Claimed, Closed}
use Rattle.palm_claim.specs.declared.statement.Statement.{Statement}
use Rattle.palm_claim.specs.declared.verdict.Claim.{Claim}
use Rattle.palm_claim.specs.declared.verdict.Claim.TheVariants.{Gone, Conflict}
use Rattle.palm_claim.specs.declared.verdict.Verdict.{Verdict}
use Rattle.palm_claim.proofs.cited.Judged.{verdict_once}
use Rattle.palm_claim.proofs.cited.Listing.{KeepsBook, NamesApart, is_single, none_apart}
use Rattle.palm_claim.proofs.cited.Phrases.{are_phrases}

same_book : (d e : Draft) (s : CertificatePhrase) → Leads d s e → e.book ≡ d.book
same_book d e Header leads = ap (λ (f : Draft). f.book) leads
same_book d e (Step name value by reasons) leads = ap (λ (f : Draft). f.book) leads.2
same_book d e (ValueClaim name value) leads = ap (λ (f : Draft). f.book) leads.2
same_book d e (ConflictClaim name) leads = ap (λ (f : Draft). f.book) leads.2
same_book d e End leads = ap (λ (f : Draft). f.book) leads.2

pub certificates_keep : KeepsBook of_certificates
certificates_keep = record { declared = λ d book. refl; listed = λ d book. refl; same = same_book }

same_claimed : (a b : Claim) → ◌≡◌ {A = Stage} (Claimed a) (Claimed b) → a ≡ b
same_claimed a b e = cc

leads_once : (d e f : Draft) (s : CertificatePhrase) → NamesApart d.book → Leads d s e → Leads d s f → e ≡ f
leads_once d e f Header apart p q = p ∙ sym q
leads_once d e f (Step name value by reasons) apart p q =
    p.2 ∙ ap (with_step d) (pair_is d.book.variables name value p.0 q.0 apart.variables p.1 q.1) ∙ sym q.2
leads_once d e f (ValueClaim name value) apart p q =
    p.2 ∙ ap (λ (x : Pair). at_stage d (Claimed (Gone x))) (pair_is d.book.variables name value p.0 q.0 apart.variables p.1 q.1) ∙ sym q.2
leads_once d e f (ConflictClaim name) apart p q =
    p.2 ∙ ap (λ (x : ℕ). at_stage d (Claimed (Conflict x))) (variable_is d.book.variables name p.0 q.0 apart.variables p.1 q.1) ∙ sym q.2
leads_once d e f End apart p q =
    p.2 ∙ ap (λ (c : Claim). at_stage d (Closed c)) (same_claimed p.0 q.0 (sym p.1 ∙ q.1)) ∙ sym q.2

pub one_verdict : (bytes : List ℕ) (a b : Verdict) → IsVerdict bytes a → IsVerdict bytes b → a ≡ b
one_verdict bytes a b p q =
    verdict_once Draft (Statement CertificatePhrase) Verdict certificates (λ d. NamesApart d.book) (is_single of_certificates certificates_keep are_phrases leads_once) blank bytes a b none_apart p q
