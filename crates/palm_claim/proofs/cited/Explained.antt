-- What is accepted is explained by the listed constraints: every pair that steps prove is, from the first step on.
use Rattle.std.proofs.Common.{◌≡◌, ℕ, ◌+◌, ◌-◌, ◌<◌, ◌≤◌, ℤ, List, [], ◌∷◌, length, All, Any, Contains, inl, inr, refl, sym, ap, subst, arith}
use Rattle.std.specs.Bool.{⊤}
use Rattle.std.proofs.lemmas.Bool.{cases_lt}
use Rattle.std.proofs.lemmas.List.{get_or_default, length-map}
use Rattle.std.proofs.lemmas.List.Elements.{All-contains, Contains-push_cases}
use Rattle.palm_base.specs.First.{IsNone}
use Rattle.palm_base.specs.declared.terms.Pair.{Pair}
use Rattle.palm_base.proofs.cited.Members.{Known, member_nil, member_here, member_map, member_unmap}
use Rattle.palm_book.specs.Book.{Contents, initial_of, with_listed, with_variable}
use Rattle.palm_book.specs.declared.book.BookCon.{BookCon}
use Rattle.palm_book.proofs.cited.Any.{any_member}
use Rattle.palm_model.specs.Closure.{Explains, IsConflict, IsGreatest}
use Rattle.palm_model.specs.Domains.{Domains, IsInside, values_of, without}
use Rattle.palm_model.proofs.cited.Trials.{support_grows}
use Rattle.palm_model.proofs.cited.Without.{has_without, pair_of}
use Rattle.palm_laws.proofs.cited.Solutions.{explained_missing}
use Rattle.palm_read.specs.Domain.{values_in}
use Rattle.palm_claim.specs.Claim.{HoldsIn, IsExplained, IsOver, IsOverItsBook, constraints_of}
use Rattle.palm_claim.specs.Draft.{Draft, MayList, blank, books, with_step}
use Rattle.palm_claim.specs.Own as of_texts
use Rattle.palm_claim.specs.Statement.{IsStepNumber, Says}
use Rattle.palm_claim.specs.Step.{IsReached, IsRight, pair_at, pairs_at}
use Rattle.palm_claim.specs.Judging.{Judges, in_order}
use Rattle.palm_claim.specs.Verdict.{IsVerdict, Meets, certificates, ending, of_certificates}
use Rattle.palm_claim.specs.declared.statement.Stage.{Stage}
use Rattle.palm_claim.specs.declared.statement.Stage.TheVariants.{Unopened, Declaring, Listing, Proving, Claimed, Closed}
use Rattle.palm_claim.specs.declared.statement.CertificatePhrase.{CertificatePhrase}
use Rattle.palm_claim.specs.declared.statement.CertificatePhrase.TheVariants.{Header, Step, ValueClaim, ConflictClaim, End}
use Rattle.palm_claim.specs.declared.statement.Statement.{Statement}
use Rattle.palm_claim.specs.declared.statement.Statement.TheVariants.{Comment, Variable, Constraint, Phrase}
use Rattle.palm_claim.specs.declared.verdict.Claim.{Claim}
use Rattle.palm_claim.specs.declared.verdict.Claim.TheVariants.{Gone, Conflict}
use Rattle.palm_claim.specs.declared.verdict.Proved.{Proved}
use Rattle.palm_claim.specs.declared.verdict.Verdict.{Verdict}
use Rattle.palm_claim.specs.declared.verdict.Verdict.TheVariants.{Accepted, Refused}
use Rattle.palm_claim.proofs.cited.Asked.{settled}

-- ---- a right step is explained where its reasons are

abbrev pub IsPairExplained : Contents → Pair → Type 0
IsPairExplained book p = Explains (initial_of book) (Contains (constraints_of book)) p.var p.value

pub proved_member : (proved : List Pair) (k : ℕ) → 1 ≤ k → k ≤ length proved → Contains proved (pair_at proved k)
proved_member proved k one most =
    let lt : k - 1 < length proved = omega (arith, one, most) in (k - 1, lt, get_or_default proved (k - 1) (pair_at proved k) (pair_at [] k) lt)

-- what the reasons' steps proved is among what was proved
pub reason_member : (proved : List Pair) (reasons : List ℕ) → All IsStepNumber reasons → (Any (λ k. length proved < k) reasons → ⊥) → (p : Pair) → Contains (pairs_at proved reasons) p → Contains proved p
reason_member proved reasons range early p m =
    let u = member_unmap (pair_at proved) reasons p m in
    let k = u.0 in
    let some = (All-contains IsStepNumber reasons k range u.1).0 in
    let one : 1 ≤ k = omega (arith, some) in
    let most : k ≤ length proved = elim (cases_lt (length proved) k) [
      | inl late ↦ absurd (early (any_member (λ j. length proved < j) reasons k u.1 late))
      | inr h ↦ h
    ] in
    subst (Contains proved) u.2 (proved_member proved k one most)

pub right_explained : (book : Contents) (proved : List Pair) (pair : Pair) (by : List ℕ) (reasons : List ℕ)
    → ((p : Pair) → Contains (pairs_at proved reasons) p → IsPairExplained book p)
    → IsRight book proved pair by reasons → IsPairExplained book pair
right_explained book proved pair by reasons explained right d inside closed has =
    let gone : List Pair = pairs_at proved reasons in
    let narrow : IsInside d (without (initial_of book) gone) = λ x v h.
    has_without (initial_of book) gone x v (inside x v h) (λ m. explained (pair_of x v) m d inside closed h) in
    right.lacks.lacks (support_grows d (without (initial_of book) gone) right.lacks.part pair.var pair.value narrow
    (closed right.owner.con right.lacks.part (member_map (λ (c : BookCon). c.con) book.constraints right.owner right.listed)
    right.lacks.is_part pair.var pair.value right.lacks.over has))

-- ---- how far a certificate has come is known

pub is_unopened : (stage : Stage) → Known (stage ≡ Unopened)
is_unopened Unopened = inl refl
is_unopened _ = inr (λ e. cc)

pub is_declaring : (stage : Stage) → Known (stage ≡ Declaring)
is_declaring Declaring = inl refl
is_declaring _ = inr (λ e. cc)

-- ---- what every draft keeps to

-- what is so at the stage: a step stands only behind the constraints, and what is claimed is explained
abbrev AtStage : Stage → Draft → Type 0
AtStage Proving d = ⊤
AtStage (Claimed claim) d = IsExplained d.book claim × IsOver d.book claim
AtStage (Closed claim) d = IsExplained d.book claim × IsOver d.book claim
AtStage stage d = d.proved ≡ []

record Keeps (d : Draft) : Type 0 where
  explained : (p : Pair) → Contains d.proved p → IsPairExplained d.book p
  stage : AtStage d.stage d

none_proved : (stage : Stage) (d : Draft) → ((MayList stage → ⊥) → ⊥) → AtStage stage d → d.proved ≡ []
none_proved Declaring d may at = at
none_proved Listing d may at = at
none_proved _ d may at = absurd (may (λ h. h))

-- a draft in which nothing is proved
keeps_none : (d : Draft) → d.proved ≡ [] → AtStage d.stage d → Keeps d
keeps_none d none at = record { explained = λ p m. absurd (member_nil p (subst (λ ps. Contains ps p) none m)); stage = at }

keeps_step : (d : Draft) (pair : Pair) → Keeps d → IsPairExplained d.book pair → Keeps (with_step d pair)
keeps_step d pair keeps is = record {
  explained = λ p m. elim (Contains-push_cases d.proved pair p m) [
    | inl o ↦ keeps.explained p o
    | inr e ↦ subst (IsPairExplained d.book) e is
  ];
  stage = tt;
}

-- explained is what leads to a contradiction, so what is not refuted serves
by_two : (book : Contents) (pair : Pair) (P : Type 0) → ((P → ⊥) → ⊥) → (P → IsPairExplained book pair) → IsPairExplained book pair
by_two book pair P twice h d inside closed has = twice (λ p. h p d inside closed has)

keeps_leads : (d e : Draft) (line : List ℕ) (s : Statement CertificatePhrase) → Keeps d → Says line s → IsNone (Meets d s) in_order → of_texts.Leads of_certificates d s e → Keeps e
keeps_leads d e line Comment keeps says none leads = subst Keeps (sym leads) keeps
keeps_leads d e line (Phrase Header) keeps says none leads =
    subst Keeps (sym leads) (record { explained = keeps.explained; stage = subst (λ s. AtStage s d) (settled (is_unopened d.stage) none.0) keeps.stage })
keeps_leads d e line (Variable name domain) keeps says none leads =
    let stands = settled (is_declaring d.stage) none.0 in
    let proved : d.proved ≡ [] = subst (λ s. AtStage s d) stands keeps.stage in
    let next = books.declared d (with_variable d.book name (values_in domain)) in
    subst Keeps (sym leads) (keeps_none next proved (subst (λ s. AtStage s next) (sym stands) proved))
keeps_leads d e line (Constraint name shape) keeps says none leads =
    let proved = none_proved d.stage d none.0 keeps.stage in
    subst Keeps (sym leads.2) (keeps_none (books.listed d (with_listed d.book name leads.0)) proved proved)
keeps_leads d e line (Phrase (Step name value by reasons)) keeps says none leads =
    let pair : Pair = leads.0 in
    let members = reason_member d.proved reasons says.2.1 none.1.1.1.0 in
    let is : IsPairExplained d.book pair = by_two d.book pair (IsRight d.book d.proved pair by reasons) (λ wrong. none.1.1.1.1.0 (pair, leads.1, wrong))
    (right_explained d.book d.proved pair by reasons (λ p m. keeps.explained p (members p m))) in
    subst Keeps (sym leads.2) (keeps_step d pair keeps is)
keeps_leads d e line (Phrase (ValueClaim name value)) keeps says none leads =
    let pair : Pair = leads.0 in
    let is : IsPairExplained d.book pair = by_two d.book pair (Contains d.proved pair) (λ out. none.1.1.1.1.1.0 (pair, leads.1, out)) (keeps.explained pair) in
    subst Keeps (sym leads.2) (record { explained = keeps.explained; stage = (is, leads.1.variable.declared) })
keeps_leads d e line (Phrase (ConflictClaim name)) keeps says none leads =
    let x : ℕ = leads.0 in
    let is : IsExplained d.book (Conflict x) = (
      omega (arith, leads.1.declared, length-map d.book.variables (λ e. e.values)),
      λ v. by_two d.book (record { var = x; value = v }) (IsReached d.book d.proved (Conflict x)) (λ out. none.1.1.1.1.1.0 (x, leads.1, out))
          (λ reached g inside closed has. keeps.explained (record { var = x; value = v }) (reached v (inside x v has)) g inside closed has),
    ) in
    subst Keeps (sym leads.2) (record { explained = keeps.explained; stage = (is, leads.1.declared) })
keeps_leads d e line (Phrase End) keeps says none leads =
    subst Keeps (sym leads.2) (record { explained = keeps.explained; stage = subst (λ s. AtStage s d) leads.1 keeps.stage })

-- ---- the whole text

ended_claim : (stage : Stage) (book : Contents) (n : ℕ) (proved : Proved) → Accepted proved ≡ ending stage book n → (stage ≡ Closed proved.claim) × (proved.book ≡ book)
ended_claim (Closed c) book n proved e =
    let made : Proved = record { claim = c; book = book } in
    let same : proved ≡ made = cc in
    (ap (λ (p : Proved). Closed p.claim) (sym same), ap (λ (p : Proved). p.book) same)
ended_claim _ book n proved e = cc

judged_explained : (lines : List (List ℕ)) (d : Draft) (n : ℕ) (proved : Proved) → Keeps d → Judges certificates d n lines (Accepted proved) → IsExplained proved.book proved.claim × IsOver proved.book proved.claim
judged_explained [] d n proved keeps j =
    let is = ended_claim d.stage d.book n proved j in
    subst (λ (b : Contents). IsExplained b proved.claim × IsOver b proved.claim) (sym is.1) (subst (λ s. AtStage s d) is.0 keeps.stage)
judged_explained (line ∷ lines) d n proved keeps j = elim j [
  | inl r ↦ let e : Accepted proved ≡ Refused n r.0 = r.2 in cc
  | inr p ↦ judged_explained lines p.0 (n + 1) proved (keeps_leads d p.0 line p.1.statement keeps p.1.says p.1.none p.1.leads) p.2
]

pub accepted_explained : (bytes : List ℕ) (proved : Proved) → IsVerdict bytes (Accepted proved) → IsExplained proved.book proved.claim
accepted_explained bytes proved is = (judged_explained is.lines blank 1 proved (keeps_none blank refl refl) is.judged).0

pub verdict_over : (bytes : List ℕ) (verdict : Verdict) → IsVerdict bytes verdict → IsOverItsBook verdict
verdict_over bytes (Accepted proved) is = (judged_explained is.lines blank 1 proved (keeps_none blank refl refl) is.judged).1
verdict_over bytes (Refused line cause) is = tt

pub accepted_conflict : (bytes : List ℕ) (proved : Proved) (x : ℕ) → IsVerdict bytes (Accepted proved) → proved.claim ≡ Conflict x → IsConflict (initial_of proved.book) (Contains (constraints_of proved.book))
accepted_conflict bytes proved x is claims =
    let h = subst (IsExplained proved.book) claims (accepted_explained bytes proved is) in
    (x, h.0, h.1)

-- ---- the greatest closed domains

no_members : (vs : List ℤ) → ((v : ℤ) → Contains vs v → ⊥) → vs ≡ []
no_members [] none = refl
no_members (v ∷ vs) none = absurd (none v (member_here v vs))

explained_holds : (book : Contents) (claim : Claim) (d : Domains) → IsExplained book claim → IsGreatest (initial_of book) (Contains (constraints_of book)) d → HoldsIn d claim
explained_holds book (Gone pair) d is greatest = explained_missing (initial_of book) (Contains (constraints_of book)) d pair.var pair.value greatest is
explained_holds book (Conflict x) d is greatest = (
  subst (λ n. x < n) (sym greatest.variables) is.0,
  no_members (values_of d x) (λ v has. explained_missing (initial_of book) (Contains (constraints_of book)) d x v greatest (is.1 v) has),
)

pub accepted_holds : (bytes : List ℕ) (proved : Proved) (d : Domains) → IsVerdict bytes (Accepted proved) → IsGreatest (initial_of proved.book) (Contains (constraints_of proved.book)) d → HoldsIn d proved.claim
accepted_holds bytes proved d is greatest = explained_holds proved.book proved.claim d (accepted_explained bytes proved is) greatest
