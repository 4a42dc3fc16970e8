-- Pairs that come back, and numbers that stay and go.
use Rattle.std.proofs.Common.{◌≡◌, ℕ, Bool, List, [], ◌∷◌, ◌++◌, Contains, Some, ◌⊎◌, inl, inr, refl, sym, ◌∙◌, subst}
use Rattle.std.proofs.lemmas.List.Elements.{Contains-append_cases, Contains-append_left, Contains-append_right}
use Rattle.palm_base.specs.Tells.{Tells}
use Rattle.palm_base.specs.declared.terms.Cid.{Cid}
use Rattle.palm_base.specs.declared.terms.Pair.{Pair}
use Rattle.palm_base.proofs.cited.Members.{member_nil, member_here, member_cases, member_same, member_single, nat_known, int_known}
use Rattle.palm_domain.specs.Rows.{Row as DomainRow, GainsPair, IsPresent, initial_of}
use Rattle.palm_model.proofs.cited.Without.{pair_of}
use Rattle.palm_events.proofs.cited.Agreeing.{pair_known}
use Rattle.palm_explain.specs.declared.entry.Entry.{Entry}
use Rattle.palm_explain.specs.declared.rows.Row.{Row}
use Rattle.palm_explain.specs.declared.rows.TheConstants.{NO_NUMBER}
use Rattle.palm_explain.specs.declared.spans.Span.{Span}
use Rattle.palm_explain.specs.Entries.{written}
use Rattle.palm_explain.specs.Losing.{FallsWith, HasBack, LosesNumbers}
use Rattle.palm_explain.specs.Restored.{KeepsNumbers}
use Rattle.palm_explain.specs.Rows.{AreFormedRows, number_at}
use Rattle.palm_explain.proofs.Reasons.{span_same, written_same}

-- ---- pairs that are back

pub back_none : (rows : List DomainRow) → HasBack rows rows []
back_none rows = record { initial = refl; sound = λ x v h. inl h; others = λ x v h. h; back = λ p m. absurd (member_nil p m) }

pub back_one : (before after : List DomainRow) (p : Pair) → initial_of after ≡ initial_of before → GainsPair before after p.var p.value → HasBack before after (p ∷ [])
back_one before after p same gains = record {
  initial = same;
  sound = λ x v h. elim (nat_known x p.var) [
    | inr n ↦ inl (gains.inside x v (λ e f. n e) h)
    | inl e ↦ elim (int_known v p.value) [
      | inr n ↦ inl (gains.inside x v (λ e f. n f) h)
      | inl f ↦ inr (member_same (p ∷ []) p (pair_of x v) (λ i. record { var = sym e i; value = sym f i }) (member_here p []))
    ]
  ];
  others = gains.others;
  back = λ q m. elim (member_cases p [] q m) [
    | inl e ↦ subst (λ (z : Pair). IsPresent after z.var z.value) e gains.there
    | inr k ↦ absurd (member_nil q k)
  ];
}

-- these pairs are those and one more
pub record IsOneMore (ps : List Pair) (p : Pair) (qs : List Pair) : Type 0 where
  pub some : (q : Pair) → Contains qs q → Contains ps q ⊎ (p ≡ q)
  pub old : (q : Pair) → Contains ps q → Contains qs q
  pub there : Contains qs p

pub back_next : (before middle after : List DomainRow) (ps qs : List Pair) (p : Pair) → IsOneMore ps p qs → HasBack before middle ps → HasBack middle after (p ∷ []) → HasBack before after qs
back_next before middle after ps qs p more one two = record {
  initial = two.initial ∙ one.initial;
  sound = λ x v h. elim (two.sound x v h) [
    | inl k ↦ elim (one.sound x v k) [ inl j ↦ inl j | inr m ↦ inr (more.old (pair_of x v) m) ]
    | inr m ↦ elim (member_cases p [] (pair_of x v) m) [
      | inl e ↦ inr (member_same qs p (pair_of x v) e more.there)
      | inr n ↦ absurd (member_nil (pair_of x v) n)
    ]
  ];
  others = λ x v h. two.others x v (one.others x v h);
  back = λ q m. elim (more.some q m) [
    | inl k ↦ two.others q.var q.value (one.back q k)
    | inr e ↦ two.back q (member_same (p ∷ []) p q e (member_here p []))
  ];
}

-- ---- numbers that stay

pub keeps_none : (rows : List Row) → KeepsNumbers rows rows
keeps_none rows = record { long = refl; formed = λ formed. formed; numbers = λ p. refl }

pub keeps_next : (old middle new : List Row) → KeepsNumbers old middle → KeepsNumbers middle new → KeepsNumbers old new
keeps_next old middle new one two = record {
  long = two.long ∙ one.long;
  formed = λ formed. two.formed (one.formed formed);
  numbers = λ p. two.numbers p ∙ one.numbers p;
}

-- rows with the same numbers have the same reasons
pub keeps_written : (old new : List Row) (n : ℕ) (spans : List Span) → AreFormedRows old → KeepsNumbers old new → written new n spans ≡ written old n spans
keeps_written old new n spans formed keeps =
    written_same old new n spans (λ s m. span_same old new n s formed (keeps.formed formed)
    (λ v k from to is lt. keeps.numbers (record { var = s.var; value = v }) ∙ is) (λ v k from to is lt. sym (keeps.numbers (record { var = s.var; value = v })) ∙ is))

-- so the same entries fall
pub keeps_falls : (old new : List Row) (cid : Cid) (pairs : List Pair) (e : Entry) → AreFormedRows old → KeepsNumbers old new → (b : Bool) → Tells b (FallsWith new cid pairs e) → Tells b (FallsWith old cid pairs e)
keeps_falls old new cid pairs e formed keeps b =
    subst (λ ps. Tells b ((e.by ≡ cid) ⊎ ((p : Pair) × Contains ps p × Contains pairs p))) (keeps_written old new e.number e.spans.items formed keeps)

-- ---- numbers that are gone

pub loses_none : (rows : List Row) → AreFormedRows rows → LosesNumbers rows rows []
loses_none rows formed = record { formed = formed; gone = λ p m. absurd (member_nil p m); others = λ p n. refl }

pub loses_one : (old new : List Row) (p : Pair) → AreFormedRows new → number_at new p ≡ Some NO_NUMBER → ((q : Pair) → (q ≡ p → ⊥) → number_at new q ≡ number_at old q) → LosesNumbers old new (p ∷ [])
loses_one old new p formed there others = record {
  formed = formed;
  gone = λ q m. subst (λ z. number_at new z ≡ Some NO_NUMBER) (member_single p q m) there;
  others = λ q n. others q (λ e. n (member_same (p ∷ []) p q (sym e) (member_here p [])));
}

pub loses_then : (old middle new : List Row) (ps qs : List Pair) → LosesNumbers old middle ps → LosesNumbers middle new qs → LosesNumbers old new (ps ++ qs)
loses_then old middle new ps qs one two = record {
  formed = two.formed;
  gone = λ p m. elim (pair_known qs p) [
    | inl k ↦ two.gone p k
    | inr n ↦ elim (Contains-append_cases ps qs p m) [ inl k ↦ two.others p n ∙ one.gone p k | inr k ↦ absurd (n k) ]
  ];
  others = λ p n. two.others p (λ k. n (Contains-append_right ps qs p k)) ∙ one.others p (λ k. n (Contains-append_left ps qs p k));
}

pub keeps_loses : (old middle new : List Row) (pairs : List Pair) → KeepsNumbers old middle → LosesNumbers middle new pairs → LosesNumbers old new pairs
keeps_loses old middle new pairs keeps loses = record { formed = loses.formed; gone = loses.gone; others = λ p n. loses.others p n ∙ keeps.numbers p }
