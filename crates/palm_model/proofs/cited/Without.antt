-- Domains without some pairs.
use Rattle.std.proofs.Common.{◌≡◌, ℕ, zero, suc, ◌+◌, true, not, ◌&&◌, ◌||◌, List, [], ◌∷◌, length, filter, Contains, ℤ, inl, inr, refl, sym, ap, ◌∙◌, subst, arith, nat_eq, int_eq, eq-eqb, eqb-true, add-zero, zero-add}
use Rattle.std.proofs.lemmas.Bool.{or_cases, and_parts, and_from, or_right, not-true, cases_Bool, false≢true}
use Rattle.std.proofs.lemmas.Bool.Decides.{Decides-int_eq}
use Rattle.std.proofs.lemmas.List.Elements.{All-nil, All-cons, All-head, All-tail}
use Rattle.palm_base.specs.declared.terms.Pair.{Pair}
use Rattle.palm_base.proofs.cited.Members.{member_nil, member_here, member_there, member_cases, member_same, filter_member, member_filter}
use Rattle.palm_model.proofs.cited.Ascending.{ascends_filter}
use Rattle.palm_model.specs.Domains.{Domains, Has, IsInside, Ascends, AllAscend, values_of, is_among, without_from, without}

-- ---- the pairs

-- the pair of the variable and the value
abbrev pub pair_of : ℕ → ℤ → Pair
pair_of x v = record { var = x; value = v }

pair_same : (p : Pair) (x : ℕ) (v : ℤ) → p.var ≡ x → p.value ≡ v → p ≡ pair_of x v
pair_same p x v e f = λ i. record { var = e i; value = f i }

pub among_member : (pairs : List Pair) (x : ℕ) (v : ℤ) → is_among pairs x v ≡ true → Contains pairs (pair_of x v)
among_member [] x v h = cc
among_member (p ∷ ps) x v h = elim (or_cases (nat_eq p.var x && int_eq p.value v) (is_among ps x v) h) [
  | inl t ↦ let both = and_parts (nat_eq p.var x) (int_eq p.value v) t in
      member_same (p ∷ ps) p (pair_of x v) (pair_same p x v (eqb-true p.var x both.0) ((Decides-int_eq p.value v).0 both.1)) (member_here p ps)
  | inr t ↦ member_there p ps (pair_of x v) (among_member ps x v t)
]

among_here : (p : Pair) (ps : List Pair) (x : ℕ) (v : ℤ) → p ≡ pair_of x v → is_among (p ∷ ps) x v ≡ true
among_here p ps x v e =
    let t = and_from (nat_eq p.var x) (int_eq p.value v) (eq-eqb p.var x (ap (λ (q : Pair). q.var) e)) ((Decides-int_eq p.value v).1 (ap (λ (q : Pair). q.value) e)) in
    ap (λ b. b || is_among ps x v) t

pub member_among : (pairs : List Pair) (x : ℕ) (v : ℤ) → Contains pairs (pair_of x v) → is_among pairs x v ≡ true
member_among [] x v h = absurd (member_nil (pair_of x v) h)
member_among (p ∷ ps) x v h = elim (member_cases p ps (pair_of x v) h) [
  | inl e ↦ among_here p ps x v e
  | inr m ↦ or_right (nat_eq p.var x && int_eq p.value v) (is_among ps x v) (member_among ps x v m)
]

-- ---- what is left

values_of_without_from : (n : ℕ) (d : Domains) (pairs : List Pair) (x : ℕ) → values_of (without_from n d pairs) x ≡ filter (λ v. not (is_among pairs (n + x) v)) (values_of d x)
values_of_without_from n [] pairs x = refl
values_of_without_from n (vs ∷ d) pairs zero = ap (λ m. filter (λ v. not (is_among pairs m v)) vs) (sym (add-zero n))
values_of_without_from n (vs ∷ d) pairs (suc x) =
    let e : (n + 1) + x ≡ n + suc x = omega arith in
    values_of_without_from (n + 1) d pairs x ∙ ap (λ m. filter (λ v. not (is_among pairs m v)) (values_of d x)) e

pub values_of_without : (d : Domains) (pairs : List Pair) (x : ℕ) → values_of (without d pairs) x ≡ filter (λ v. not (is_among pairs x v)) (values_of d x)
values_of_without d pairs x = values_of_without_from 0 d pairs x ∙ ap (λ m. filter (λ v. not (is_among pairs m v)) (values_of d x)) (zero-add x)

length_without_from : (n : ℕ) (d : Domains) (pairs : List Pair) → length (without_from n d pairs) ≡ length d
length_without_from n [] pairs = refl
length_without_from n (vs ∷ d) pairs = ap suc (length_without_from (n + 1) d pairs)

pub length_without : (d : Domains) (pairs : List Pair) → length (without d pairs) ≡ length d
length_without d pairs = length_without_from 0 d pairs

ascend_without_from : (n : ℕ) (d : Domains) (pairs : List Pair) → AllAscend d → AllAscend (without_from n d pairs)
ascend_without_from n [] pairs h = All-nil Ascends
ascend_without_from n (vs ∷ d) pairs h =
    All-cons Ascends (filter (λ v. not (is_among pairs n v)) vs) (without_from (n + 1) d pairs)
    (ascends_filter (λ v. not (is_among pairs n v)) vs (All-head Ascends vs d h)) (ascend_without_from (n + 1) d pairs (All-tail Ascends vs d h))

pub ascend_without : (d : Domains) (pairs : List Pair) → AllAscend d → AllAscend (without d pairs)
ascend_without d pairs h = ascend_without_from 0 d pairs h

-- what is left was there, and its pair is none of the pairs
pub without_has : (d : Domains) (pairs : List Pair) (x : ℕ) (v : ℤ) → Has (without d pairs) x v → Has d x v × (Contains pairs (pair_of x v) → ⊥)
without_has d pairs x v h =
    let r = filter_member (λ w. not (is_among pairs x w)) (values_of d x) v (subst (λ vs. Contains vs v) (values_of_without d pairs x) h) in
    (r.0, λ m. false≢true (sym (not-true (is_among pairs x v) r.1) ∙ member_among pairs x v m))

among_false : (pairs : List Pair) (x : ℕ) (v : ℤ) → (Contains pairs (pair_of x v) → ⊥) → not (is_among pairs x v) ≡ true
among_false pairs x v n = elim (cases_Bool (is_among pairs x v)) [
  | inl t ↦ absurd (n (among_member pairs x v t))
  | inr f ↦ ap not f
]

-- what was there and is none of the pairs is left
pub has_without : (d : Domains) (pairs : List Pair) (x : ℕ) (v : ℤ) → Has d x v → (Contains pairs (pair_of x v) → ⊥) → Has (without d pairs) x v
has_without d pairs x v h n =
    subst (λ vs. Contains vs v) (sym (values_of_without d pairs x)) (member_filter (λ w. not (is_among pairs x w)) (values_of d x) v h (among_false pairs x v n))

pub without_inside : (d : Domains) (pairs : List Pair) → IsInside (without d pairs) d
without_inside d pairs x v h = (without_has d pairs x v h).0

-- fewer pairs leave more
pub without_grows : (d : Domains) (more fewer : List Pair) → ((p : Pair) → Contains fewer p → Contains more p) → IsInside (without d more) (without d fewer)
without_grows d more fewer sub x v h =
    let r = without_has d more x v h in has_without d fewer x v r.0 (λ m. r.1 (sub (pair_of x v) m))
