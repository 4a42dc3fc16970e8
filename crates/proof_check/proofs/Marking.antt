-- Marks by numbers, and the pass over the lemmas.
use Rattle.std.proofs.Common.{◌≡◌, ℕ, zero, suc, ◌+◌, ◌-◌, ◌≤◌, Bool, false, Some, List, [], ◌∷◌, ◌++◌, length, replicate, Contains, ◌⊎◌, inl, inr, refl, sym, ap, ◌∙◌, subst, arith}
use Rattle.std.specs.Prelude.{slice_get}
use Rattle.std.proofs.lemmas.Bool.{cases_eq, false≢true}
use Rattle.std.proofs.lemmas.List.Elements.{All-contains, Contains-append_left, Contains-push, Contains-push_cases}
use Rattle.std.proofs.lemmas.Option.{same_Some}
use Rattle.palm_base.proofs.cited.Members.{member_nil}
use Rattle.proof_text.specs.Users.{Uses, by_step, by_lemma}
use Rattle.proof_text.specs.declared.lemma.Lemma.{Lemma}
use Rattle.proof_text.proofs.cited.Using.{uses_cases}
use Rattle.proof_check.specs.Kept.{IsBehind}
use Rattle.proof_check.specs.Marks.{IsMarked, IsPassed, IsPending, IsUsage, MarksMore, MarksNamed}
use Rattle.proof_check.specs.declared.marks.Marks.{Marks}

-- ---- marks

unmarked : (count n : ℕ) → IsMarked (replicate count false) n → ⊥
unmarked zero n e = false≢true e
unmarked (suc count) zero e = false≢true e
unmarked (suc count) (suc n) e = unmarked count n e

pub marks_none : (marks : List Bool) → MarksMore marks marks (Contains [])
marks_none marks = record { long = refl; keeps = λ n m. m; marks = λ n m. absurd (member_nil n m); only = λ n m. inl m }

pub marks_more : (before now after : List Bool) (numbers : List ℕ) (number : ℕ) → MarksMore before now (Contains numbers) → MarksMore now after (λ n. n ≡ number)
    → MarksMore before after (Contains (numbers ++ number ∷ []))
marks_more before now after numbers number a b = record {
  long = b.long ∙ a.long;
  keeps = λ n m. b.keeps n (a.keeps n m);
  marks = λ n m. elim (Contains-push_cases numbers number n m) [ inl l ↦ b.keeps n (a.marks n l) | inr e ↦ b.marks n (sym e) ];
  only = λ n m. elim (b.only n m) [
    | inl l ↦ elim (a.only n l) [ inl k ↦ inl k | inr k ↦ inr (Contains-append_left numbers (number ∷ []) n k) ]
    | inr e ↦ inr (subst (λ (k : ℕ). Contains (numbers ++ number ∷ []) k) (sym e) (Contains-push numbers number))
  ];
}

-- ---- what a lemma uses

uses_through : (lemmas : List Lemma) (lemma l : Lemma) (place n : ℕ) → Contains lemma.lemmas (place + 1) → slice_get lemmas place ≡ Some l → Uses lemmas l n → Uses lemmas lemma n
uses_through lemmas lemma l place n m at u =
    let e : place ≡ place + 1 - 1 = omega arith in
    by_lemma lemma l (place + 1) n m (subst (λ (k : ℕ). slice_get lemmas k ≡ Some l) e at) u

-- what uses a constraint is named, or pending
pending : (lemmas : List Lemma) (marks : Marks) (lemma : Lemma) (before : Marks) (room count : ℕ) (n : ℕ) → IsBehind room count lemma → MarksNamed before marks lemma → Uses lemmas lemma n
    → IsMarked marks.constraints.items n ⊎ IsPending lemmas marks.lemmas.items count n
pending lemmas marks lemma before room count n behind named u = elim (uses_cases lemmas lemma n u) [
  | inl m ↦ inl (named.constraints.marks n m)
  | inr r ↦
      let bounds = All-contains (λ k. (1 ≤ k) × (k ≤ count)) lemma.lemmas r.0 behind.lemmas r.1 in
      let one : 1 ≤ r.0 = bounds.0 in
      let most : r.0 ≤ count = bounds.1 in
      let e : r.0 ≡ r.0 - 1 + 1 = omega (arith, one) in
      inr (record {
        place = r.0 - 1;
        early = omega (arith, one, most);
        reached = subst (λ (k : ℕ). IsMarked marks.lemmas.items k) e (named.lemmas.marks r.0 r.1);
        lemma = r.2.0;
        stands = r.2.1;
        uses = r.2.2;
      })
]

-- ---- the pass

pub passed_start : (lemmas : List Lemma) (lemma : Lemma) (before after : Marks) (room many : ℕ) → before.constraints.items ≡ replicate room false → before.lemmas.items ≡ replicate many false
    → IsBehind room (length lemmas) lemma → MarksNamed before after lemma → IsPassed lemmas lemma after (length lemmas)
passed_start lemmas lemma before after room many blank none behind named = record { used = used; through = through; all = λ n u. pending lemmas after lemma before room (length lemmas) n behind named u }
  where
    used : (n : ℕ) → IsMarked after.constraints.items n → Uses lemmas lemma n
    used n m = elim (named.constraints.only n m) [
      | inl l ↦ absurd (unmarked room n (subst (λ (ms : List Bool). IsMarked ms n) blank l))
      | inr l ↦ by_step lemma n l
    ]

    through : (place n : ℕ) (l : Lemma) → IsMarked after.lemmas.items (place + 1) → slice_get lemmas place ≡ Some l → Uses lemmas l n → Uses lemmas lemma n
    through place n l m at u = elim (named.lemmas.only (place + 1) m) [
      | inl k ↦ absurd (unmarked many (place + 1) (subst (λ (ms : List Bool). IsMarked ms (place + 1)) none k))
      | inr k ↦ uses_through lemmas lemma l place n k at u
    ]

module _ (lemmas : List Lemma) (lemma : Lemma) (before : Marks) (place : ℕ) (passed : IsPassed lemmas lemma before (place + 1)) where
  pub passed_through : (after : Marks) (l : Lemma) (room : ℕ) → IsMarked before.lemmas.items (place + 1) → slice_get lemmas place ≡ Some l → IsBehind room place l → MarksNamed before after l
      → IsPassed lemmas lemma after place
  passed_through after l room reached at behind named = record { used = used; through = through; all = all }
    where
      used : (n : ℕ) → IsMarked after.constraints.items n → Uses lemmas lemma n
      used n m = elim (named.constraints.only n m) [
        | inl k ↦ passed.used n k
        | inr k ↦ passed.through place n l reached at (by_step l n k)
      ]

      through : (other n : ℕ) (o : Lemma) → IsMarked after.lemmas.items (other + 1) → slice_get lemmas other ≡ Some o → Uses lemmas o n → Uses lemmas lemma n
      through other n o m stands u = elim (named.lemmas.only (other + 1) m) [
        | inl k ↦ passed.through other n o k stands u
        | inr k ↦ passed.through place n l reached at (uses_through lemmas l o other n k stands u)
      ]

      all : (n : ℕ) → Uses lemmas lemma n → IsMarked after.constraints.items n ⊎ IsPending lemmas after.lemmas.items place n
      all n u = elim (passed.all n u) [
        | inl m ↦ inl (named.constraints.keeps n m)
        | inr p ↦ elim (cases_eq p.place place) [
          | inl e ↦
              let same : p.lemma ≡ l = same_Some p.lemma l (sym p.stands ∙ ap (λ (k : ℕ). slice_get lemmas k) e ∙ at) in
              pending lemmas after l before room place n behind named (subst (λ (o : Lemma). Uses lemmas o n) same p.uses)
          | inr ne ↦ inr (record {
            place = p.place;
            early = omega (arith, p.early, ne);
            reached = named.lemmas.keeps (p.place + 1) p.reached;
            lemma = p.lemma;
            stands = p.stands;
            uses = p.uses;
          })
        ]
      ]

pub passed_all : (lemmas : List Lemma) (lemma : Lemma) (marks : Marks) (count : ℕ) → count ≤ 0 → IsPassed lemmas lemma marks count → IsUsage lemmas lemma marks.constraints.items
passed_all lemmas lemma marks count none passed = record {
  used = passed.used;
  all = λ n u. elim (passed.all n u) [ inl m ↦ m | inr p ↦ absurd (omega (arith, none, p.early)) ];
}
