-- Support in a constraint of one part, support by the values of two variables, and domains without some pairs.
use Rattle.std.proofs.Common.{◌≡◌, ℕ, zero, suc, ◌+◌, ℤ, pos, Bool, true, false, not, ◌&&◌, ◌||◌, List, [], ◌∷◌, filter, Contains, eqb, eq-eqb, ◌⊎◌, inl, inr, refl, sym, ap, ◌∙◌, subst, arith, int_eq}
use Rattle.std.specs.List.{list_any}
use Rattle.std.proofs.lemmas.Bool.{not-true, both_ways, and_parts, or_cases, eqb-true}
use Rattle.std.proofs.lemmas.Bool.Decides.{Decides-int_eq}
use Rattle.palm_base.proofs.cited.Members.{member_nil, member_here, member_there, member_cases, member_single, member_same, filter_member, member_filter}
use Rattle.palm_base.specs.declared.terms.Pair.{Pair}
use Rattle.palm_model.specs.Domains.{Domains, Assignment, Has, values_of, is_among, without_from, without}
use Rattle.palm_model.specs.Part.{scope_of, Holds, parts}
use Rattle.palm_model.specs.Support.{HasSupport, IsSupported, LacksSupport}
use Rattle.palm_model.specs.declared.constraint.Con.{Con}
use Rattle.palm_model.specs.declared.part.Part.{Part}
use Rattle.palm_model.proofs.cited.Trials.{put, put_same, put_other}

-- ---- tests of some member

pub any_member : {X : Type 0} (p : X → Bool) (xs : List X) → list_any p xs ≡ true → (x : X) × Contains xs x × (p x ≡ true)
any_member p [] h = absurd (both_ways false refl h)
any_member p (x ∷ xs) h = elim (or_cases (p x) (list_any p xs) h) [
  | inl t ↦ (x, member_here x xs, t)
  | inr t ↦ let r = any_member p xs t in (r.0, member_there x xs r.0 r.1, r.2)
]

or_left : (b c : Bool) → b ≡ true → (b || c) ≡ true
or_left true c h = refl
or_left false c h = absurd (both_ways false refl h)

or_right : (b c : Bool) → c ≡ true → (b || c) ≡ true
or_right true c h = refl
or_right false c h = h

and_both : (b c : Bool) → b ≡ true → c ≡ true → (b && c) ≡ true
and_both true c h k = k
and_both false c h k = h

pub member_any : {X : Type 0} (p : X → Bool) (xs : List X) (x : X) → Contains xs x → p x ≡ true → list_any p xs ≡ true
member_any p [] x m t = absurd (member_nil x m)
member_any p (y ∷ xs) x m t = elim (member_cases y xs x m) [
  | inl e ↦ or_left (p y) (list_any p xs) (ap p e ∙ t)
  | inr k ↦ or_right (p y) (list_any p xs) (member_any p xs x k t)
]

-- ---- constraints of one part

pub supported_by_part : (d : Domains) (c : Con) (p : Part) (x : ℕ) (v : ℤ) → parts c ≡ p ∷ [] → HasSupport d p x v → IsSupported d c x v
supported_by_part d c p x v one s = record {
  each = λ q m over. subst (λ r. HasSupport d r x v) (member_single p q (subst (λ ps. Contains ps q) one m)) s;
}

pub lacking_by_part : (d : Domains) (c : Con) (p : Part) (x : ℕ) (v : ℤ) → parts c ≡ p ∷ [] → Contains (scope_of p) x → (HasSupport d p x v → ⊥) → LacksSupport d c x v
lacking_by_part d c p x v one over lacks = record {
  part = p;
  is_part = subst (λ ps. Contains ps p) (sym one) (member_here p []);
  over = over;
  lacks = lacks;
}

pub part_unsupported : (d : Domains) (c : Con) (p : Part) (x : ℕ) (v : ℤ) → parts c ≡ p ∷ [] → LacksSupport d c x v → HasSupport d p x v → ⊥
part_unsupported d c p x v one l s = l.lacks (subst (λ r. HasSupport d r x v) (member_single p l.part (subst (λ ps. Contains ps l.part) one l.is_part)) s)

-- ---- the values of two variables

-- the assignment that gives x the value v, and y the value w
abbrev pub two : ℕ → ℤ → ℕ → ℤ → Assignment
two x v y w = put (put (λ z. pos 0) y w) x v

pub two_first : (x : ℕ) (v : ℤ) (y : ℕ) (w : ℤ) → two x v y w x ≡ v
two_first x v y w = put_same (put (λ z. pos 0) y w) x v

pub two_second : (x : ℕ) (v : ℤ) (y : ℕ) (w : ℤ) → (y ≡ x → ⊥) → two x v y w y ≡ w
two_second x v y w ne = put_other (put (λ z. pos 0) y w) x v y ne ∙ put_same (λ z. pos 0) y w

-- a part over two variables supports v of x where it holds of this value and of a value of y
pub support_by_two : (d : Domains) (p : Part) (x : ℕ) (v : ℤ) (y : ℕ) (w : ℤ) → (y ≡ x → ⊥) → ((z : ℕ) → Contains (scope_of p) z → (x ≡ z) ⊎ (y ≡ z)) → Has d x v → Has d y w → Holds p (two x v y w) → HasSupport d p x v
support_by_two d p x v y w ne over has_x has_y h = record {
  assignment = two x v y w;
  within = λ z m. elim (over z m) [
    | inl e ↦ subst (λ t. Has d t (two x v y w t)) e (subst (λ u. Has d x u) (sym (two_first x v y w)) has_x)
    | inr e ↦ subst (λ t. Has d t (two x v y w t)) e (subst (λ u. Has d y u) (sym (two_second x v y w ne)) has_y)
  ];
  gives = two_first x v y w;
  holds = h;
}

-- a part over one variable supports each of its values of which it holds
pub support_by_one : (d : Domains) (p : Part) (x : ℕ) (v : ℤ) → ((z : ℕ) → Contains (scope_of p) z → x ≡ z) → Has d x v → Holds p (put (λ z. pos 0) x v) → HasSupport d p x v
support_by_one d p x v over has h = record {
  assignment = put (λ z. pos 0) x v;
  within = λ z m. subst (λ t. Has d t (put (λ z. pos 0) x v t)) (over z m) (subst (λ u. Has d x u) (sym (put_same (λ z. pos 0) x v)) has);
  gives = put_same (λ z. pos 0) x v;
  holds = h;
}

-- ---- domains without some pairs

pub among_member : (pairs : List Pair) (x : ℕ) (v : ℤ) → is_among pairs x v ≡ true → Contains pairs (record { var = x; value = v })
among_member pairs x v h =
    let r = any_member (λ (p : Pair). eqb p.var x && int_eq p.value v) pairs h in
    let t = and_parts (eqb r.0.var x) (int_eq r.0.value v) r.2 in
    member_same pairs r.0 (record { var = x; value = v }) (same_pair r.0 (eqb-true r.0.var x t.0) ((Decides-int_eq r.0.value v).0 t.1)) r.1
  where
    same_pair : (p : Pair) → p.var ≡ x → p.value ≡ v → p ≡ record { var = x; value = v }
    same_pair p e f = ap (λ y. record { var = y; value = p.value }) e ∙ ap (λ w. record { var = x; value = w }) f

pub member_among : (pairs : List Pair) (x : ℕ) (v : ℤ) → Contains pairs (record { var = x; value = v }) → is_among pairs x v ≡ true
member_among pairs x v m =
    member_any (λ (p : Pair). eqb p.var x && int_eq p.value v) pairs (record { var = x; value = v }) m
    (and_both (eqb x x) (int_eq v v) (eq-eqb x x refl) ((Decides-int_eq v v).1 refl))

pub not_true : (b : Bool) → (b ≡ true → ⊥) → not b ≡ true
not_true true n = absurd (n refl)
not_true false n = refl

values_without_from : (n : ℕ) (d : Domains) (pairs : List Pair) (x : ℕ) → values_of (without_from n d pairs) x ≡ filter (λ v. not (is_among pairs (n + x) v)) (values_of d x)
values_without_from n [] pairs x = refl
values_without_from n (vs ∷ d) pairs zero = let e : n ≡ n + 0 = omega arith in ap (λ y. filter (λ v. not (is_among pairs y v)) vs) e
values_without_from n (vs ∷ d) pairs (suc x) =
    let e : (n + 1) + x ≡ n + suc x = omega arith in
    values_without_from (n + 1) d pairs x ∙ ap (λ y. filter (λ v. not (is_among pairs y v)) (values_of d x)) e

values_without : (d : Domains) (pairs : List Pair) (x : ℕ) → values_of (without d pairs) x ≡ filter (λ v. not (is_among pairs x v)) (values_of d x)
values_without d pairs x = let e : 0 + x ≡ x = omega arith in values_without_from 0 d pairs x ∙ ap (λ y. filter (λ v. not (is_among pairs y v)) (values_of d x)) e

-- what is left was there and is not among the pairs
pub without_has : (d : Domains) (pairs : List Pair) (x : ℕ) (v : ℤ) → Has (without d pairs) x v → Has d x v × (Contains pairs (record { var = x; value = v }) → ⊥)
without_has d pairs x v h =
    let r = filter_member (λ v. not (is_among pairs x v)) (values_of d x) v (subst (λ vs. Contains vs v) (values_without d pairs x) h) in
    (r.0, λ m. both_ways (is_among pairs x v) (not-true (is_among pairs x v) r.1) (member_among pairs x v m))

-- what was there and is not among the pairs is left
pub has_without : (d : Domains) (pairs : List Pair) (x : ℕ) (v : ℤ) → Has d x v → (Contains pairs (record { var = x; value = v }) → ⊥) → Has (without d pairs) x v
has_without d pairs x v h n =
    subst (λ vs. Contains vs v) (sym (values_without d pairs x))
    (member_filter (λ v. not (is_among pairs x v)) (values_of d x) v h (not_true (is_among pairs x v) (λ t. n (among_member pairs x v t))))
