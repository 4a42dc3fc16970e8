-- Verdicts of any family: a text has one where what is asked of a line is known, and no two where a line says one thing and
-- leads to one draft.
use Rattle.std.proofs.Common.{◌≡◌, ℕ, ◌+◌, List, [], ◌∷◌, ◌⊎◌, inl, inr, refl, sym, ap, ◌∙◌, subst}
use Rattle.palm_base.specs.First.{IsFirst, IsNone}
use Rattle.palm_base.proofs.cited.FirstCauses.{first_known, first_not_none, first_once}
use Rattle.palm_base.proofs.cited.Members.{Known}
use Rattle.palm_read.proofs.cited.Cutting.{has_lines, lines_once}
use Rattle.palm_claim.specs.Judging.{Family, IsRefusedFor, IsVerdictFrom, Judges, Passes, in_order}
use Rattle.palm_claim.specs.declared.verdict.Cause.{Cause}
use Rattle.palm_claim.specs.declared.verdict.Cause.TheVariants.{Malformed}

-- what lines without a cause lead to keeps what the draft before them keeps
abbrev pub IsKept : {D S V : Type 0} → Family D S V → (D → Type 0) → Type 0
IsKept {D = D} {S = S} family Keeps = (d e : D) (line : List ℕ) (s : S) → Keeps d → family.Says line s → IsNone (family.Meets d s) in_order → family.Leads d s e → Keeps e

-- no line says two things, and none leads to two drafts
pub record IsSingle {D S V : Type 0} (family : Family D S V) (Keeps : D → Type 0) : Type 0 where
  pub kept : IsKept family Keeps
  pub one_saying : (line : List ℕ) (a b : S) → family.Says line a → family.Says line b → a ≡ b
  pub one_lead : (d e f : D) (s : S) → Keeps d → family.Leads d s e → family.Leads d s f → e ≡ f

-- it is known what a line says and which causes this meets, and without one it leads on
pub record IsKnown {D S V : Type 0} (family : Family D S V) (Keeps : D → Type 0) : Type 0 where
  pub kept : IsKept family Keeps
  pub said : (line : List ℕ) → Known ((s : S) × family.Says line s)
  pub meets : (d : D) (line : List ℕ) (s : S) → Keeps d → family.Says line s → (cause : Cause) → Known (family.Meets d s cause)
  pub leads : (d : D) (line : List ℕ) (s : S) → Keeps d → family.Says line s → IsNone (family.Meets d s) in_order → (e : D) × family.Leads d s e

module _ (D S V : Type 0) (family : Family D S V) (Keeps : D → Type 0) where
  module _ (single : IsSingle family Keeps) where
    refused_once : (d : D) (line : List ℕ) (a b : Cause) → IsRefusedFor family d line a → IsRefusedFor family d line b → a ≡ b
    refused_once d line a b p q = elim p [
      | inl l ↦ elim q [ inl m ↦ l.1 ∙ sym m.1 | inr m ↦ absurd (l.0 m.0 m.1) ]
      | inr l ↦ elim q [
        | inl m ↦ absurd (m.0 l.0 l.1)
        | inr m ↦ first_once (family.Meets d m.0) in_order a b (subst (λ (s : S). IsFirst (family.Meets d s) in_order a) (single.one_saying line l.0 m.0 l.1 m.1) l.2) m.2
      ]
    ]

    refused_or_passes : (d : D) (line : List ℕ) (a : Cause) (e : D) → IsRefusedFor family d line a → Passes family d line e → ⊥
    refused_or_passes d line a e p passes = elim p [
      | inl l ↦ l.0 passes.statement passes.says
      | inr l ↦
          first_not_none (family.Meets d passes.statement) in_order a
          (subst (λ (s : S). IsFirst (family.Meets d s) in_order a) (single.one_saying line l.0 passes.statement l.1 passes.says) l.2) passes.none
    ]

    passes_once : (d e f : D) (line : List ℕ) → Keeps d → Passes family d line e → Passes family d line f → e ≡ f
    passes_once d e f line keeps p q =
        let same = single.one_saying line p.statement q.statement p.says q.says in
        single.one_lead d e f q.statement keeps (subst (λ (s : S). family.Leads d s e) same p.leads) q.leads

    judged_once : (lines : List (List ℕ)) (d : D) (n : ℕ) (a b : V) → Keeps d → Judges family d n lines a → Judges family d n lines b → a ≡ b
    judged_once [] d n a b keeps p q = p ∙ sym q
    judged_once (line ∷ lines) d n a b keeps p q = elim p [
      | inl l ↦ elim q [
        | inl m ↦ l.2 ∙ ap (λ (c : Cause). family.refused n c) (refused_once d line l.0 m.0 l.1 m.1) ∙ sym m.2
        | inr m ↦ absurd (refused_or_passes d line l.0 m.0 l.1 m.1)
      ]
      | inr l ↦ elim q [
        | inl m ↦ absurd (refused_or_passes d line m.0 l.0 m.1 l.1)
        | inr m ↦
            let same : l.0 ≡ m.0 = passes_once d l.0 m.0 line keeps l.1 m.1 in
            judged_once lines m.0 (n + 1) a b (single.kept d m.0 line m.1.statement keeps m.1.says m.1.none m.1.leads)
            (subst (λ (e : D). Judges family e (n + 1) lines a) same l.2) m.2
      ]
    ]

    pub verdict_once : (blank : D) (bytes : List ℕ) (a b : V) → Keeps blank → IsVerdictFrom family blank bytes a → IsVerdictFrom family blank bytes b → a ≡ b
    verdict_once blank bytes a b keeps p q =
        let same : p.lines ≡ q.lines = lines_once bytes p.lines q.lines p.are_lines q.are_lines in
        judged_once q.lines blank 1 a b keeps (subst (λ (ls : List (List ℕ)). Judges family blank 1 ls a) same p.judged) q.judged

  module _ (known : IsKnown family Keeps) where
    line_answered : (d : D) (line : List ℕ) → Keeps d → ((cause : Cause) × IsRefusedFor family d line cause) ⊎ ((e : D) × Passes family d line e)
    line_answered d line keeps = elim (known.said line) [
      | inr none ↦ inl (Malformed, inl (λ s says. none (s, says), refl))
      | inl said ↦ elim (first_known (family.Meets d said.0) (known.meets d line said.0 keeps said.1) in_order) [
        | inl r ↦ inl (r.0, inr (said.0, said.1, r.1))
        | inr none ↦
            let on = known.leads d line said.0 keeps said.1 none in
            inr (on.0, record { statement = said.0; says = said.1; none = none; leads = on.1 })
      ]
    ]

    judged : (lines : List (List ℕ)) (d : D) (n : ℕ) → Keeps d → (verdict : V) × Judges family d n lines verdict
    judged [] d n keeps = (family.ending d n, refl)
    judged (line ∷ lines) d n keeps = elim (line_answered d line keeps) [
      | inl r ↦ (family.refused n r.0, inl (r.0, r.1, refl))
      | inr p ↦
          let rest = judged lines p.0 (n + 1) (known.kept d p.0 line p.1.statement keeps p.1.says p.1.none p.1.leads) in
          (rest.0, inr (p.0, p.1, rest.1))
    ]

    pub has_verdict : (blank : D) (bytes : List ℕ) → Keeps blank → (verdict : V) × IsVerdictFrom family blank bytes verdict
    has_verdict blank bytes keeps =
        let lines = has_lines bytes in
        let one = judged lines.0 blank 1 keeps in
        (one.0, record { lines = lines.0; are_lines = lines.1; judged = one.1 })
