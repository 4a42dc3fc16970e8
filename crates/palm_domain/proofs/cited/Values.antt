-- The values without one of them, and with one more.
use Rattle.std.proofs.Common.{◌≡◌, suc, ◌<◌, ◌≤◌, ℤ, ◌<ℤ◌, ◌≤ℤ◌, Bool, true, false, not, cond, List, [], ◌∷◌, length, filter, Contains, int_eq, int_lt, refl, ap, subst, ◌∙◌, arith, inl, inr, ◌⊎◌}
use Rattle.std.proofs.lemmas.Int.{ints, by_lt_z}
use Rattle.std.proofs.lemmas.Bool.{cases_Bool, not-true, both_ways}
use Rattle.palm_base.proofs.cited.Members.{member_nil, member_here, member_there, member_cases, member_tail, member_same, filter_member, member_filter}
use Rattle.palm_domain.specs.Rows.{Ascends, values_with, values_without}
use Rattle.palm_domain.proofs.cited.Ascending.{first_below, Ascends-cons}
use Rattle.palm_domain.proofs.cited.Comparisons.{int_eq_apart, same_from_int_eq, apart_from_int_eq, lt_from_int_lt, ge_from_int_lt, int_lt_from_lt, int_lt_from_ge}

-- ---- without a value

not_same : (w v : ℤ) → not (int_eq w v) ≡ true → w ≡ v → ⊥
not_same w v h e = apart_from_int_eq w v (not-true (int_eq w v) h) e

-- what is left was there, and is another value
pub without_member : (v : ℤ) (vs : List ℤ) (w : ℤ) → Contains (values_without v vs) w → Contains vs w × (w ≡ v → ⊥)
without_member v vs w h = let r = filter_member (λ w. not (int_eq w v)) vs w h in (r.0, not_same w v r.1)

pub member_without : (v : ℤ) (vs : List ℤ) (w : ℤ) → Contains vs w → (w ≡ v → ⊥) → Contains (values_without v vs) w
member_without v vs w h apart = member_filter (λ w. not (int_eq w v)) vs w h (ap not (int_eq_apart w v apart))

Ascends-cond : (b : Bool) (x : ℤ) (xs : List ℤ) → Ascends xs → Ascends (x ∷ xs) → Ascends (cond b (x ∷ xs) xs)
Ascends-cond true x xs a c = c
Ascends-cond false x xs a c = a

pub Ascends-filter : (p : ℤ → Bool) (xs : List ℤ) → Ascends xs → Ascends (filter p xs)
Ascends-filter p [] a = tt
Ascends-filter p (x ∷ xs) a =
    let rest = Ascends-filter p xs a.1 in
    Ascends-cond (p x) x (filter p xs) rest (Ascends-cons x (filter p xs) (λ v m. first_below x xs a v (filter_member p xs v m).0) rest)

pub Ascends-without : (v : ℤ) (vs : List ℤ) → Ascends vs → Ascends (values_without v vs)
Ascends-without v vs a = Ascends-filter (λ w. not (int_eq w v)) vs a

-- nothing is taken out of values that do not have it
without_none : (v : ℤ) (vs : List ℤ) → (Contains vs v → ⊥) → values_without v vs ≡ vs
without_none v [] none = refl
without_none v (x ∷ xs) none =
    ap (λ b. cond (not b) (x ∷ values_without v xs) (values_without v xs)) (int_eq_apart x v (λ e. none (member_same (x ∷ xs) x v e (member_here x xs)))) ∙ ap (λ ys. x ∷ ys) (without_none v xs (λ m. none (member_there x xs v m)))

-- one value fewer
pub length-without : (v : ℤ) (vs : List ℤ) → Ascends vs → Contains vs v → suc (length (values_without v vs)) ≡ length vs
length-without v [] a h = absurd (member_nil v h)
length-without v (x ∷ xs) a h = elim (cases_Bool (int_eq x v)) [
  | inl same ↦
      let e = same_from_int_eq x v same in
      ap (λ b. suc (length (cond (not b) (x ∷ values_without v xs) (values_without v xs)))) same ∙ ap (λ ys. suc (length ys)) (without_none v xs (λ m. omega (arith, ints, first_below x xs a v m, e)))
  | inr other ↦
      ap (λ b. suc (length (cond (not b) (x ∷ values_without v xs) (values_without v xs)))) other ∙ ap suc (length-without v xs a.1 (member_tail x xs v (apart_from_int_eq x v other) h))
]

-- ---- with a value

with_cond_member : (b : Bool) (v w : ℤ) (ws rest : List ℤ) (u : ℤ) → ((u : ℤ) → Contains rest u → (v ≡ u) ⊎ Contains ws u) → Contains (cond b (v ∷ w ∷ ws) (w ∷ rest)) u → (v ≡ u) ⊎ Contains (w ∷ ws) u
with_cond_member true v w ws rest u sub h = member_cases v (w ∷ ws) u h
with_cond_member false v w ws rest u sub h = elim (member_cases w rest u h) [
  | inl e ↦ inr (member_same (w ∷ ws) w u e (member_here w ws))
  | inr m ↦ elim (sub u m) [ inl e ↦ inl e | inr n ↦ inr (member_there w ws u n) ]
]

-- what is there afterwards is the value or was there
pub with_member : (v : ℤ) (vs : List ℤ) (u : ℤ) → Contains (values_with v vs) u → (v ≡ u) ⊎ Contains vs u
with_member v [] u h = member_cases v [] u h
with_member v (w ∷ ws) u h = with_cond_member (int_lt v w) v w ws (values_with v ws) u (with_member v ws) h

member_cond_both : (b : Bool) (v w : ℤ) (ws rest : List ℤ) (u : ℤ) → Contains (v ∷ w ∷ ws) u → Contains (w ∷ rest) u → Contains (cond b (v ∷ w ∷ ws) (w ∷ rest)) u
member_cond_both true v w ws rest u h k = h
member_cond_both false v w ws rest u h k = k

pub member_with_itself : (v : ℤ) (vs : List ℤ) → Contains (values_with v vs) v
member_with_itself v [] = member_here v []
member_with_itself v (w ∷ ws) =
    member_cond_both (int_lt v w) v w ws (values_with v ws) v (member_here v (w ∷ ws)) (member_there w (values_with v ws) v (member_with_itself v ws))

pub member_with : (v : ℤ) (vs : List ℤ) (u : ℤ) → Contains vs u → Contains (values_with v vs) u
member_with v [] u h = absurd (member_nil u h)
member_with v (w ∷ ws) u h =
    member_cond_both (int_lt v w) v w ws (values_with v ws) u (member_there v (w ∷ ws) u h) (elim (member_cases w ws u h) [
      | inl e ↦ member_same (w ∷ values_with v ws) w u e (member_here w (values_with v ws))
      | inr m ↦ member_there w (values_with v ws) u (member_with v ws u m)
    ])

Ascends-cond_both : (b : Bool) (xs ys : List ℤ) → (b ≡ true → Ascends xs) → (b ≡ false → Ascends ys) → Ascends (cond b xs ys)
Ascends-cond_both true xs ys a c = a refl
Ascends-cond_both false xs ys a c = c refl

pub Ascends-with : (v : ℤ) (vs : List ℤ) → Ascends vs → (Contains vs v → ⊥) → Ascends (values_with v vs)
Ascends-with v [] a none = Ascends-cons v [] (λ u m. absurd (member_nil u m)) tt
Ascends-with v (w ∷ ws) a none =
    Ascends-cond_both (int_lt v w) (v ∷ w ∷ ws) (w ∷ values_with v ws)
    (λ lt. let l = lt_from_int_lt v w lt in Ascends-cons v (w ∷ ws) (λ u m. elim (member_cases w ws u m) [ inl e ↦ subst (λ z. v <ℤ z) e l | inr n ↦ omega (arith, ints, first_below w ws a u n) ]) a)
    (λ ge. let g = ge_from_int_lt v w ge in Ascends-cons w (values_with v ws) (λ u m. elim (with_member v ws u m) [
      | inl e ↦ above v w u g (λ same. none (member_same (w ∷ ws) w v same (member_here w ws))) e
      | inr n ↦ first_below w ws a u n
    ]) (Ascends-with v ws a.1 (λ m. none (member_there w ws v m))))
  where
    above : (v w u : ℤ) → w ≤ℤ v → (w ≡ v → ⊥) → v ≡ u → w <ℤ u
    above v w u le apart e = by_lt_z w u (λ l. l) (λ g. absurd (apart (omega (arith, ints))))

-- one value more
pub length-with : (v : ℤ) (vs : List ℤ) → length (values_with v vs) ≡ suc (length vs)
length-with v [] = refl
length-with v (w ∷ ws) = by_cond (int_lt v w) (length-with v ws)
  where
    by_cond : (b : Bool) → length (values_with v ws) ≡ suc (length ws) → length (cond b (v ∷ w ∷ ws) (w ∷ values_with v ws)) ≡ suc (suc (length ws))
    by_cond true e = refl
    by_cond false e = ap suc e

-- ---- a walk upwards: each step leaves fewer values above

-- the values above this one
abbrev pub values_above : ℤ → List ℤ → List ℤ
values_above v vs = filter (λ w. int_lt v w) vs

length-above_cond : (b c : Bool) (x : ℤ) (xs ys : List ℤ) → (b ≡ true → c ≡ true) → length xs ≤ length ys → length (cond b (x ∷ xs) xs) ≤ length (cond c (x ∷ ys) ys)
length-above_cond true true x xs ys h l = omega arith
length-above_cond true false x xs ys h l = absurd (both_ways false refl (h refl))
length-above_cond false true x xs ys h l = omega arith
length-above_cond false false x xs ys h l = l

-- the higher, the fewer
pub length-above_le : (v w : ℤ) (vs : List ℤ) → v ≤ℤ w → length (values_above w vs) ≤ length (values_above v vs)
length-above_le v w [] l = omega arith
length-above_le v w (x ∷ xs) l =
    length-above_cond (int_lt w x) (int_lt v x) x (values_above w xs) (values_above v xs) (λ e. int_lt_from_lt v x (omega (arith, ints, lt_from_int_lt w x e))) (length-above_le v w xs l)

length-above_drops : (b c : Bool) (x : ℤ) (xs ys : List ℤ) → b ≡ false → c ≡ true → length xs ≤ length ys → length (cond b (x ∷ xs) xs) < length (cond c (x ∷ ys) ys)
length-above_drops true c x xs ys e f l = absurd (both_ways true e refl)
length-above_drops false true x xs ys e f l = omega arith
length-above_drops false false x xs ys e f l = absurd (both_ways false refl f)

length-above_later : (b c : Bool) (x : ℤ) (xs ys : List ℤ) → (b ≡ true → c ≡ true) → length xs < length ys → length (cond b (x ∷ xs) xs) < length (cond c (x ∷ ys) ys)
length-above_later true true x xs ys h l = omega arith
length-above_later true false x xs ys h l = absurd (both_ways false refl (h refl))
length-above_later false true x xs ys h l = omega arith
length-above_later false false x xs ys h l = l

-- a measure of a walk over values: the next one, w, is one of them
pub length-above_falls : (v w : ℤ) (vs : List ℤ) → v <ℤ w → Contains vs w → length (values_above w vs) < length (values_above v vs)
length-above_falls v w [] l h = absurd (member_nil w h)
length-above_falls v w (x ∷ xs) l h = elim (member_cases x xs w h) [
  | inl e ↦ length-above_drops (int_lt w x) (int_lt v x) x (values_above w xs) (values_above v xs) (int_lt_from_ge w x (omega (arith, ints, e))) (int_lt_from_lt v x (omega (arith, ints, e))) (length-above_le v w xs (omega (arith, ints)))
  | inr m ↦ length-above_later (int_lt w x) (int_lt v x) x (values_above w xs) (values_above v xs) (λ e. int_lt_from_lt v x (omega (arith, ints, lt_from_int_lt w x e))) (length-above_falls v w xs l m)
]
