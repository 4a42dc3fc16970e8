-- No text has two verdicts: no line says two things, and none leads to two drafts.
use Rattle.std.proofs.Common.{◌≡◌, ℕ, List, [], ◌∷◌, ◌++◌, refl, sym, ap, ◌∙◌}
use Rattle.palm_base.specs.declared.terms.Cid.{Cid}
use Rattle.palm_base.specs.declared.terms.Pair.{Pair}
use Rattle.palm_book.specs.Book.{BookVar}
use Rattle.palm_book.specs.declared.book.BookCon.{BookCon}
use Rattle.palm_book.proofs.cited.Pairs.{Apart, pair_is}
use Rattle.palm_claim.specs.declared.ground.Ground.{Ground}
use Rattle.palm_claim.specs.declared.ground.Ground.TheVariants.{By, Assumed, OfLemma}
use Rattle.palm_claim.specs.declared.statement.Statement.{Statement}
use Rattle.palm_claim.proofs.cited.Judged.{verdict_once}
use Rattle.palm_claim.proofs.cited.Listing.{KeepsBook, NamesApart, is_single, none_apart}
use Rattle.palm_claim.proofs.cited.ProvedSteps.{same_constraint}
use Rattle.proof_text.specs.Draft.{ArePairs, Draft, Leads, Notes, at_stage, blank, users_of, with_lemma, with_step}
use Rattle.proof_text.specs.Users.{Uses}
use Rattle.proof_text.specs.Verdict.{IsVerdict, of_proofs, proofs}
use Rattle.proof_text.specs.declared.lemma.Lemma.{Lemma}
use Rattle.proof_text.specs.declared.statement.NamedPair.{NamedPair}
use Rattle.proof_text.specs.declared.statement.ProofPhrase.{ProofPhrase}
use Rattle.proof_text.specs.declared.statement.ProofPhrase.TheVariants.{Header, Lemma as LemmaLine, Step, Wipe, Users, End}
use Rattle.proof_text.specs.declared.statement.Stage.{Stage}
use Rattle.proof_text.specs.declared.statement.Stage.TheVariants.{Told, Closed}
use Rattle.proof_text.specs.declared.verdict.ProofVerdict.{ProofVerdict}
use Rattle.proof_text.proofs.cited.Phrases.{are_phrases}
use Rattle.proof_text.proofs.cited.Using.{picked_once}

same_book : (d e : Draft) (s : ProofPhrase) → Leads d s e → e.book ≡ d.book
same_book d e Header leads = ap (λ (f : Draft). f.book) leads
same_book d e (LemmaLine named) leads = ap (λ (f : Draft). f.book) leads.2
same_book d e (Step name value ground) leads = ap (λ (f : Draft). f.book) leads.4
same_book d e (Wipe name) leads = ap (λ (f : Draft). f.book) leads
same_book d e (Users names) leads = ap (λ (f : Draft). f.book) leads.2
same_book d e End leads = ap (λ (f : Draft). f.book) leads.2

pub proofs_keep : KeepsBook of_proofs
proofs_keep = record { declared = λ d book. refl; listed = λ d book. refl; same = same_book }

-- ---- what a line adds is one thing

pub pairs_once : (variables : List BookVar) (named : List NamedPair) (p q : List Pair) → Apart variables → ArePairs variables named p → ArePairs variables named q → p ≡ q
pairs_once variables [] p q apart a b = a ∙ sym b
pairs_once variables (n ∷ ns) p q apart a b =
    a.3
    ∙ ap (λ (x : Pair). x ∷ a.1) (pair_is variables n.name n.value a.0 b.0 apart a.2 b.2)
    ∙ ap (λ (xs : List Pair). b.0 ∷ xs) (pairs_once variables ns a.1 b.1 apart a.4 b.4)
    ∙ sym b.3

pub noted_once : (d : Draft) (ground : Ground) (l m : Lemma) → NamesApart d.book → Notes d ground l → Notes d ground m → l ≡ m
noted_once d (By name reasons) l m apart p q =
    let same : p.0 ≡ q.0 = same_constraint d.book.constraints p.0 q.0 apart.constraints p.1 q.1 (p.2 ∙ sym q.2) in
    let noted : BookCon → Lemma = λ c. record d.begun { constraints = d.begun.constraints ++ c.number ∷ [] } in
    p.3 ∙ ap noted same ∙ sym q.3
noted_once d Assumed l m apart p q = p ∙ sym q
noted_once d (OfLemma number) l m apart p q = p ∙ sym q

same_told : (a b : List Cid) → ◌≡◌ {A = Stage} (Told a) (Told b) → a ≡ b
same_told a b e = cc

leads_once : (d e f : Draft) (s : ProofPhrase) → NamesApart d.book → Leads d s e → Leads d s f → e ≡ f
leads_once d e f Header apart p q = p ∙ sym q
leads_once d e f (LemmaLine named) apart p q =
    p.2 ∙ ap (λ (pairs : List Pair). with_lemma d pairs) (pairs_once d.book.variables named p.0 q.0 apart.variables p.1 q.1) ∙ sym q.2
leads_once d e f (Step name value ground) apart p q =
    p.4
    ∙ ap (λ (x : Pair). with_step d x p.1) (pair_is d.book.variables name value p.0 q.0 apart.variables p.2 q.2)
    ∙ ap (λ (l : Lemma). with_step d q.0 l) (noted_once d ground p.1 q.1 apart p.3 q.3)
    ∙ sym q.4
leads_once d e f (Wipe name) apart p q = p ∙ sym q
leads_once d e f (Users names) apart p q =
    let same : p.0 ≡ q.0 = picked_once (λ (c : BookCon). Uses d.lemmas d.begun c.number) d.book.constraints p.0 q.0 p.1 q.1 in
    p.2 ∙ ap (λ (used : List BookCon). at_stage d (Told (users_of used))) same ∙ sym q.2
leads_once d e f End apart p q =
    p.2 ∙ ap (λ (users : List Cid). at_stage d (Closed users)) (same_told p.0 q.0 (sym p.1 ∙ q.1)) ∙ sym q.2

pub one_verdict : (bytes : List ℕ) (a b : ProofVerdict) → IsVerdict bytes a → IsVerdict bytes b → a ≡ b
one_verdict bytes a b p q =
    verdict_once Draft (Statement ProofPhrase) ProofVerdict proofs (λ d. NamesApart d.book) (is_single of_proofs proofs_keep are_phrases leads_once) blank bytes a b none_apart p q
