-- The values whose places are marked.
use Rattle.std.proofs.Common.{◌≡◌, ℕ, zero, suc, ℤ, ◌+◌, ◌<◌, ◌≤◌, Bool, true, false, cond, List, [], ◌∷◌, length, get_or, Contains, refl, sym, ap, ◌∙◌, arith, inl, inr, ◌⊎◌}
use Rattle.std.proofs.lemmas.Bool.{cases_eq, both_ways}
use Rattle.std.proofs.lemmas.List.{get_or_default}
use Rattle.palm_base.proofs.cited.Members.{member_nil, member_here, member_there, member_cases, member_same}
use Rattle.palm_domain.specs.Rows.{Ascends, values_with, values_without}
use Rattle.palm_domain.specs.Marks.{kept}
use Rattle.palm_domain.proofs.cited.Ascending.{first_below, Ascends-cons, same_place, same_ascending}
use Rattle.palm_domain.proofs.cited.Values.{without_member, member_without, Ascends-without, with_member, member_with, member_with_itself, Ascends-with}

first_cases : (b : Bool) (x : ℤ) (ks : List ℤ) (v : ℤ) → Contains (cond b (x ∷ ks) ks) v → ((x ≡ v) × (b ≡ true)) ⊎ Contains ks v
first_cases true x ks v h = elim (member_cases x ks v h) [ inl e ↦ inl (e, refl) | inr m ↦ inr m ]
first_cases false x ks v h = inr h

-- a kept value stands at a marked place
kept_member_from : (m : ℕ → Bool) (i : ℕ) (xs : List ℤ) (v : ℤ) → Contains (kept m i xs) v → (k : ℕ) × (k < length xs) × (get_or xs k v ≡ v) × (m (i + k) ≡ true)
kept_member_from m i [] v h = absurd (member_nil v h)
kept_member_from m i (x ∷ xs) v h = elim (first_cases (m i) x (kept m (suc i) xs) v h) [
  | inl s ↦ let e : i + 0 ≡ i = omega arith in (0, omega arith, s.0, ap m e ∙ s.1)
  | inr t ↦
      let r = kept_member_from m (suc i) xs v t in
      let e : i + suc r.0 ≡ suc i + r.0 = omega arith in
      (suc r.0, omega (arith, r.1), r.2, ap m e ∙ r.3)
]

pub kept_member : (m : ℕ → Bool) (xs : List ℤ) (v : ℤ) → Contains (kept m 0 xs) v → (k : ℕ) × (k < length xs) × (get_or xs k v ≡ v) × (m k ≡ true)
kept_member m xs v h =
    let r = kept_member_from m 0 xs v h in
    let e : r.0 ≡ 0 + r.0 = omega arith in
    (r.0, r.1, r.2, ap m e ∙ r.3)

first_kept : (b : Bool) (x : ℤ) (ks : List ℤ) → b ≡ true → Contains (cond b (x ∷ ks) ks) x
first_kept true x ks e = member_here x ks
first_kept false x ks e = absurd (both_ways false refl e)

later_kept : (b : Bool) (x : ℤ) (ks : List ℤ) (v : ℤ) → Contains ks v → Contains (cond b (x ∷ ks) ks) v
later_kept true x ks v h = member_there x ks v h
later_kept false x ks v h = h

member_kept_from : (m : ℕ → Bool) (i : ℕ) (xs : List ℤ) (k : ℕ) (d : ℤ) → k < length xs → m (i + k) ≡ true → Contains (kept m i xs) (get_or xs k d)
member_kept_from m i [] k d l e = absurd (omega arith)
member_kept_from m i (x ∷ xs) zero d l e =
    let s : i ≡ i + 0 = omega arith in first_kept (m i) x (kept m (suc i) xs) (ap m s ∙ e)
member_kept_from m i (x ∷ xs) (suc k) d l e =
    let s : suc i + k ≡ i + suc k = omega arith in
    later_kept (m i) x (kept m (suc i) xs) (get_or xs k d) (member_kept_from m (suc i) xs k d (omega arith) (ap m s ∙ e))

-- the value of a marked place is kept
pub member_kept : (m : ℕ → Bool) (xs : List ℤ) (k : ℕ) (d : ℤ) → k < length xs → m k ≡ true → Contains (kept m 0 xs) (get_or xs k d)
member_kept m xs k d l e = let s : 0 + k ≡ k = omega arith in member_kept_from m 0 xs k d l (ap m s ∙ e)

pub kept_inside : (m : ℕ → Bool) (i : ℕ) (xs : List ℤ) (v : ℤ) → Contains (kept m i xs) v → Contains xs v
kept_inside m i xs v h = let r = kept_member_from m i xs v h in (r.0, r.1, r.2)

Ascends-first : (b : Bool) (x : ℤ) (ks : List ℤ) → Ascends (x ∷ ks) → Ascends (cond b (x ∷ ks) ks)
Ascends-first true x ks a = a
Ascends-first false x ks a = a.1

pub Ascends-kept : (m : ℕ → Bool) (i : ℕ) (xs : List ℤ) → Ascends xs → Ascends (kept m i xs)
Ascends-kept m i [] a = tt
Ascends-kept m i (x ∷ xs) a =
    Ascends-first (m i) x (kept m (suc i) xs) (Ascends-cons x (kept m (suc i) xs) (λ v h. first_below x xs a v (kept_inside m (suc i) xs v h)) (Ascends-kept m (suc i) xs a.1))

length-first : (b : Bool) (x : ℤ) (ks : List ℤ) (n : ℕ) → length ks ≤ n → length (cond b (x ∷ ks) ks) ≤ suc n
length-first true x ks n l = omega arith
length-first false x ks n l = omega arith

pub length-kept : (m : ℕ → Bool) (i : ℕ) (xs : List ℤ) → length (kept m i xs) ≤ length xs
length-kept m i [] = omega arith
length-kept m i (x ∷ xs) = length-first (m i) x (kept m (suc i) xs) (length xs) (length-kept m (suc i) xs)

-- where each place is marked, each value is kept
kept_all_from : (m : ℕ → Bool) (i : ℕ) (xs : List ℤ) → ((k : ℕ) → k < length xs → m (i + k) ≡ true) → kept m i xs ≡ xs
kept_all_from m i [] all = refl
kept_all_from m i (x ∷ xs) all =
    let s : i ≡ i + 0 = omega arith in
    ap (λ b. cond b (x ∷ kept m (suc i) xs) (kept m (suc i) xs)) (ap m s ∙ all 0 (omega arith)) ∙ ap (λ ys. x ∷ ys) (kept_all_from m (suc i) xs (λ k l. let e : suc i + k ≡ i + suc k = omega arith in ap m e ∙ all (suc k) (omega arith)))

pub kept_all : (m : ℕ → Bool) (xs : List ℤ) → ((k : ℕ) → k < length xs → m k ≡ true) → kept m 0 xs ≡ xs
kept_all m xs all = kept_all_from m 0 xs (λ k l. let e : 0 + k ≡ k = omega arith in ap m e ∙ all k l)

-- ---- one mark changes: v stands at place p
module _ (m n : ℕ → Bool) (xs : List ℤ) (a : Ascends xs) (p : ℕ) (v : ℤ) (within : p < length xs) (at : get_or xs p v ≡ v) (others : (k : ℕ) → (k ≡ p → ⊥) → n k ≡ m k) where
  -- the place of another value is another
  other_place : (w : ℤ) (k : ℕ) → k < length xs → get_or xs k w ≡ w → (w ≡ v → ⊥) → k ≡ p → ⊥
  other_place w k l e apart same = apart (sym e ∙ ap (λ j. get_or xs j w) same ∙ get_or_default xs p w v within ∙ at)

  other_value : (w : ℤ) (k : ℕ) → k < length xs → get_or xs k w ≡ w → (k ≡ p → ⊥) → w ≡ v → ⊥
  other_value w k l e apart same = apart (same_place xs a k p w v l within (e ∙ same ∙ sym at))

  pub kept_cleared : n p ≡ false → kept n 0 xs ≡ values_without v (kept m 0 xs)
  kept_cleared clear =
      same_ascending (kept n 0 xs) (values_without v (kept m 0 xs)) (Ascends-kept n 0 xs a) (Ascends-without v (kept m 0 xs) (Ascends-kept m 0 xs a)) (λ w h.
      let r = kept_member n xs w h in
      let apart : r.0 ≡ p → ⊥ = λ e. both_ways (n r.0) (ap n e ∙ clear) r.3 in
      member_without v (kept m 0 xs) w (member_same (kept m 0 xs) (get_or xs r.0 w) w r.2 (member_kept m xs r.0 w r.1 (sym (others r.0 apart) ∙ r.3))) (other_value w r.0 r.1 r.2 apart)) (λ w h.
      let o = without_member v (kept m 0 xs) w h in
      let r = kept_member m xs w o.0 in
      let apart = other_place w r.0 r.1 r.2 o.1 in
      member_same (kept n 0 xs) (get_or xs r.0 w) w r.2 (member_kept n xs r.0 w r.1 (others r.0 apart ∙ r.3)))

  pub kept_marked : m p ≡ false → n p ≡ true → kept n 0 xs ≡ values_with v (kept m 0 xs)
  kept_marked clear mark =
      let none : Contains (kept m 0 xs) v → ⊥ = λ h.
      let r = kept_member m xs v h in
      let same = same_place xs a r.0 p v v r.1 within (r.2 ∙ sym at) in
      both_ways (m r.0) (ap m same ∙ clear) r.3 in
      same_ascending (kept n 0 xs) (values_with v (kept m 0 xs)) (Ascends-kept n 0 xs a) (Ascends-with v (kept m 0 xs) (Ascends-kept m 0 xs a) none) (λ w h.
      let r = kept_member n xs w h in
      elim (cases_eq r.0 p) [
        | inl same ↦ member_same (values_with v (kept m 0 xs)) v w (sym at ∙ get_or_default xs p v w within ∙ ap (λ j. get_or xs j w) (sym same) ∙ r.2) (member_with_itself v (kept m 0 xs))
        | inr apart ↦ member_with v (kept m 0 xs) w (member_same (kept m 0 xs) (get_or xs r.0 w) w r.2 (member_kept m xs r.0 w r.1 (sym (others r.0 apart) ∙ r.3)))
      ]) (λ w h. elim (with_member v (kept m 0 xs) w h) [
        | inl same ↦ member_same (kept n 0 xs) v w same (member_same (kept n 0 xs) (get_or xs p v) v at (member_kept n xs p v within mark))
        | inr h ↦
            let r = kept_member m xs w h in
            let apart : r.0 ≡ p → ⊥ = λ e. both_ways (m r.0) (ap m e ∙ clear) r.3 in
            member_same (kept n 0 xs) (get_or xs r.0 w) w r.2 (member_kept n xs r.0 w r.1 (others r.0 apart ∙ r.3))
      ])
