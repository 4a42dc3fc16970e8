-- Pairs that are taken out of a store and put back, one after another.
use Rattle.std.proofs.Common.{◌≡◌, ℕ, ℤ, ◌+◌, ◌<◌, nat_eq, List, [], ◌∷◌, length, get_or, drop, Contains, inl, inr, refl, sym, ap, ◌∙◌, subst, arith}
use Rattle.std.proofs.lemmas.Bool.{eqb-false, eqb-true}
use Rattle.std.proofs.lemmas.List.{drop_more}
use Rattle.palm_base.specs.Tells.{Tells}
use Rattle.palm_base.proofs.cited.Telling.{tells_both}
use Rattle.palm_base.specs.declared.terms.Pair.{Pair}
use Rattle.palm_base.proofs.cited.Members.{Known, int_known, known_both, known_like, member_cases, member_here, member_known, member_single, member_there, nat_known}
use Rattle.palm_domain.specs.Rows.{IsDeclared, IsPresent, Row, initial_of, present_of, values_of}
use Rattle.palm_model.specs.Domains.{IsInside, without}
use Rattle.palm_model.proofs.cited.Without.{has_without, without_has}
use Rattle.palm_listed.specs.Store.{IsFull, PutsBack, TakesOut}

abbrev pub pair_of : ℕ → ℤ → Pair
pair_of x v = record { var = x; value = v }

pub pair_known : (p q : Pair) → Known (p ≡ q)
pair_known p q =
    known_like (λ b. ap (λ (x : ℕ). pair_of x p.value) b.0 ∙ ap (λ (v : ℤ). pair_of q.var v) b.1)
    (λ e. (ap (λ (r : Pair). r.var) e, ap (λ (r : Pair). r.value) e)) (known_both (nat_known p.var q.var) (int_known p.value q.value))

-- ---- one pair, and then others

takes_then : (a b c : List Row) (p : Pair) (ps : List Pair) → TakesOut a b (p ∷ []) → TakesOut b c ps → TakesOut a c (p ∷ ps)
takes_then a b c p ps one more = record {
  variables = more.variables ∙ one.variables;
  initial = more.initial ∙ one.initial;
  left = λ x v h.
      let m = more.left x v h in
      let o = one.left x v m.0 in (
        o.0,
        λ k. elim (member_cases p ps (pair_of x v) k) [
          | inl e ↦ o.1 (subst (Contains (p ∷ [])) e (member_here p []))
          | inr n ↦ m.1 n
        ],
      );
  stays = λ x v h out.
      more.stays x v (one.stays x v h (λ k. out (subst (Contains (p ∷ ps)) (member_single p (pair_of x v) k) (member_here p ps))))
      (λ k. out (member_there p ps (pair_of x v) k));
}

puts_then : (a b c : List Row) (p : Pair) (ps : List Pair) → PutsBack a b (p ∷ []) → PutsBack b c ps → PutsBack a c (p ∷ ps)
puts_then a b c p ps one more = record {
  variables = more.variables ∙ one.variables;
  initial = more.initial ∙ one.initial;
  there = λ q m. elim (member_cases p ps q m) [
    | inl e ↦ subst (λ (r : Pair). IsPresent c r.var r.value) e (more.keeps p.var p.value (one.there p (member_here p [])))
    | inr n ↦ more.there q n
  ];
  keeps = λ x v h. more.keeps x v (one.keeps x v h);
}

-- ---- loops: what the rest of the pairs still does

pub record Taking (start now : List Row) (pairs : List Pair) (place : ℕ) : Type 0 where
  pub variables : length now ≡ length start
  pub rest : (after : List Row) → TakesOut now after (drop place pairs) → TakesOut start after pairs

pub taking_next : (start now next : List Row) (pairs : List Pair) (place : ℕ) (p : Pair) → Taking start now pairs place → place < length pairs → p ≡ get_or pairs place p → TakesOut now next (p ∷ []) → Taking start next pairs (place + 1)
taking_next start now next pairs place p taking lt is one = record {
  variables = one.variables ∙ taking.variables;
  rest = λ after t.
      let split : drop place pairs ≡ p ∷ drop (place + 1) pairs = drop_more pairs place p lt ∙ ap (λ (q : Pair). q ∷ drop (place + 1) pairs) (sym is) in
      taking.rest after (subst (TakesOut now after) (sym split) (takes_then now next after p (drop (place + 1) pairs) one t));
}

pub record Putting (start now : List Row) (pairs : List Pair) (place : ℕ) : Type 0 where
  pub initial : initial_of now ≡ initial_of start
  pub rest : (after : List Row) → PutsBack now after (drop place pairs) → PutsBack start after pairs

pub putting_next : (start now next : List Row) (pairs : List Pair) (place : ℕ) (p : Pair) → Putting start now pairs place → place < length pairs → p ≡ get_or pairs place p → PutsBack now next (p ∷ []) → Putting start next pairs (place + 1)
putting_next start now next pairs place p putting lt is one = record {
  initial = one.initial ∙ putting.initial;
  rest = λ after t.
      let split : drop place pairs ≡ p ∷ drop (place + 1) pairs = drop_more pairs place p lt ∙ ap (λ (q : Pair). q ∷ drop (place + 1) pairs) (sym is) in
      putting.rest after (subst (PutsBack now after) (sym split) (puts_then now next after p (drop (place + 1) pairs) one t));
}

-- ---- what is taken out of a full store and put back

member_decided : (pairs : List Pair) (p : Pair) → Known (Contains pairs p)
member_decided pairs p = member_known pair_known pairs p

pub full_again : (start mid end : List Row) (pairs : List Pair) → IsFull start → TakesOut start mid pairs → PutsBack mid end pairs → IsFull end
full_again start mid end pairs full takes puts x v declared =
    let there : IsPresent start x v = full x v (subst (λ d. Contains (values_of d x) v) (puts.initial ∙ takes.initial) declared) in
    elim (member_decided pairs (pair_of x v)) [
      | inl m ↦ puts.there (pair_of x v) m
      | inr out ↦ puts.keeps x v (takes.stays x v there out)
    ]

-- a declared pair is present exactly where it was not taken out
pub gone_taken : (start mid : List Row) (pairs : List Pair) (x : ℕ) (v : ℤ) → IsFull start → IsDeclared start x v → TakesOut start mid pairs → (IsPresent mid x v → ⊥) → Contains pairs (pair_of x v)
gone_taken start mid pairs x v full declared takes absent = elim (member_decided pairs (pair_of x v)) [
  | inl m ↦ m
  | inr out ↦ absurd (absent (takes.stays x v (full x v declared) out))
]

-- what is left of a full store is the declared values without the pairs that were taken out
pub present_is : (start mid : List Row) (pairs : List Pair) → ((x : ℕ) (v : ℤ) → IsPresent start x v → IsDeclared start x v) → IsFull start → TakesOut start mid pairs
    → IsInside (present_of mid) (without (initial_of start) pairs) × IsInside (without (initial_of start) pairs) (present_of mid)
present_is start mid pairs inside full takes = (
  λ x v h. let l = takes.left x v h in has_without (initial_of start) pairs x v (inside x v l.0) l.1,
  λ x v h. let w = without_has (initial_of start) pairs x v h in takes.stays x v (full x v w.0) w.1,
)

-- ---- what the answers of a store tell behind it

first_member : (vs : List ℤ) → (length vs ≡ 0 → ⊥) → (v : ℤ) × Contains vs v
first_member [] some = absurd (some refl)
first_member (v ∷ vs) some = (v, (0, omega arith, refl))

pub empty_tells : (start mid : List Row) (pairs : List Pair) (x count : ℕ) → IsFull start → ((y : ℕ) (v : ℤ) → IsPresent start y v → IsDeclared start y v) → TakesOut start mid pairs
    → count ≡ length (values_of (present_of mid) x) → Tells (nat_eq count 0) ((v : ℤ) → IsDeclared start x v → Contains pairs (pair_of x v))
empty_tells start mid pairs x count full inside takes is =
    tells_both ((v : ℤ) → IsDeclared start x v → Contains pairs (pair_of x v)) (nat_eq count 0)
    (λ e v declared. gone_taken start mid pairs x v full declared takes (λ h. let none : count ≡ 0 = eqb-true count 0 e in omega (arith, none, is, h.1)))
    (λ e all.
    let m = first_member (values_of (present_of mid) x) (λ none. eqb-false count 0 e (is ∙ none)) in
    let l = takes.left x m.0 m.1 in
    l.1 (all m.0 (inside x m.0 l.0)))
