-- The numbers of steps.
use Rattle.std.proofs.Common.{◌≡◌, ℕ, zero, suc, ◌+◌, ◌-◌, ◌<◌, ◌≤◌, Bool, true, false, cond, Some, option_map, List, [], ◌∷◌, ◌++◌, Contains, inl, inr, refl, sym, ap, ◌∙◌, subst, arith}
use Rattle.std.specs.Prelude.{slice_get}
use Rattle.std.specs.List.{dedup}
use Rattle.std.specs.List.Retain.{IsFiltered, DiffersFromLast}
use Rattle.std.specs.List.Sorted.{IsPermutation, IsSorted}
use Rattle.std.specs.Ordering.{nat_cmp}
use Rattle.std.proofs.Common.{eqb}
use Rattle.std.proofs.lemmas.Bool.{false≢true}
use Rattle.std.proofs.lemmas.List.Elements.{Contains-push_cases, Contains-append_left, Contains-append_right}
use Rattle.std.proofs.lemmas.List.Filters.{dedup_is}
use Rattle.std.proofs.lemmas.List.Kept.{AllPairs-from_increasing, Contains-dedup_nat, Contains-from_dedup}
use Rattle.std.proofs.lemmas.List.Sorted.{Contains-permutation, IsPermutation-sym}
use Rattle.std.proofs.lemmas.Map.Keys.{IsStrictlyIncreasing-dedup}
use Rattle.std.proofs.lemmas.Option.{none-some, same_Some, slice_get-map}
use Rattle.palm_base.specs.declared.terms.Pair.{Pair}
use Rattle.palm_base.proofs.cited.Members.{member_nil, member_here, member_there, member_cases, member_same}
use Rattle.palm_model.specs.Log.{Removal, log_pairs}
use Rattle.palm_cert.specs.Certificate.{is_asked, numbers_from, numbers_of}
use Rattle.palm_cert.specs.Needs.{IsNumberOf}
use Rattle.palm_cert.proofs.cited.Before.{Before, before_from}
use Rattle.palm_cert.proofs.cited.Links.{Apart, asked_member, member_asked, same_place}

pub pair_at : (log : List Removal) (place : ℕ) (r : Removal) → slice_get log place ≡ Some r → slice_get (log_pairs log) place ≡ Some r.pair
pair_at log place r at = slice_get-map (λ (s : Removal). s.pair) log place ∙ ap (option_map (λ (s : Removal). s.pair)) at

-- ---- the places of the members that pass a test, where the first member has the place n

module _ {X : Type 0} (t : X → Bool) where
  abbrev pub places_from : ℕ → List X → List ℕ
  places_from n [] = []
  places_from n (x ∷ xs) = cond (t x) (n ∷ places_from (n + 1) xs) (places_from (n + 1) xs)

  -- a member that passes has the place
  pub record IsPassed (n : ℕ) (xs : List X) (k : ℕ) : Type 0 where
    pub from : n ≤ k
    pub member : X
    pub at : slice_get xs (k - n) ≡ Some member
    pub passes : t member ≡ true

  passed_later : (n : ℕ) (x : X) (xs : List X) (k : ℕ) → IsPassed (n + 1) xs k → IsPassed n (x ∷ xs) k
  passed_later n x xs k p =
      let e : k - n ≡ suc (k - (n + 1)) = omega (arith, p.from) in
      record { from = omega (arith, p.from); member = p.member; at = ap (λ (j : ℕ). slice_get (x ∷ xs) j) e ∙ p.at; passes = p.passes }

  passed_cases : (n : ℕ) (x : X) (xs : List X) (k : ℕ) (ks : List ℕ) (b : Bool) → t x ≡ b → (Contains ks k → IsPassed (n + 1) xs k) → Contains (cond b (n ∷ ks) ks) k → IsPassed n (x ∷ xs) k
  passed_cases n x xs k ks true e later m = elim (member_cases n ks k m) [
    | inl here ↦ let first : k - n ≡ 0 = omega (arith, here) in record { from = omega (arith, here); member = x; at = ap (λ (j : ℕ). slice_get (x ∷ xs) j) first; passes = e }
    | inr i ↦ passed_later n x xs k (later i)
  ]
  passed_cases n x xs k ks false e later m = passed_later n x xs k (later m)

  pub place_passed : (n : ℕ) (xs : List X) (k : ℕ) → Contains (places_from n xs) k → IsPassed n xs k
  place_passed n [] k m = absurd (member_nil k m)
  place_passed n (x ∷ xs) k m = passed_cases n x xs k (places_from (n + 1) xs) (t x) refl (place_passed (n + 1) xs k) m

  first_place : (b : Bool) (n : ℕ) (ks : List ℕ) → b ≡ true → Contains (cond b (n ∷ ks) ks) n
  first_place true n ks e = member_here n ks
  first_place false n ks e = absurd (false≢true e)

  later_place : (b : Bool) (n k : ℕ) (ks : List ℕ) → Contains ks k → Contains (cond b (n ∷ ks) ks) k
  later_place true n k ks m = member_there n ks k m
  later_place false n k ks m = m

  pub passed_place : (n : ℕ) (xs : List X) (j k : ℕ) (x : X) → slice_get xs j ≡ Some x → t x ≡ true → n + j ≡ k → Contains (places_from n xs) k
  passed_place n [] j k x at e same = absurd (none-some x at)
  passed_place n (y ∷ xs) zero k x at e same =
      let first : n ≡ k = omega (arith, same) in
      member_same (places_from n (y ∷ xs)) n k first (first_place (t y) n (places_from (n + 1) xs) (ap t (same_Some y x at) ∙ e))
  passed_place n (y ∷ xs) (suc j) k x at e same =
      later_place (t y) n k (places_from (n + 1) xs) (passed_place (n + 1) xs j k x at e (omega (arith, same)))

  later_rises : (b : Bool) (n : ℕ) (ks : List ℕ) → ((k : ℕ) → Contains ks k → n < k) → Before (λ i j. i < j) ks → Before (λ i j. i < j) (cond b (n ∷ ks) ks)
  later_rises true n ks above rising = (above, rising)
  later_rises false n ks above rising = rising

  pub places_rise : (n : ℕ) (xs : List X) → Before (λ i j. i < j) (places_from n xs)
  places_rise n [] = tt
  places_rise n (x ∷ xs) =
      later_rises (t x) n (places_from (n + 1) xs) (λ k m. let from = (place_passed (n + 1) xs k m).from in omega (arith, from)) (places_rise (n + 1) xs)

-- ---- the numbers of the steps that proved some pairs

pub numbers_are : (n : ℕ) (steps : List Removal) (pairs : List Pair) → numbers_from n steps pairs ≡ places_from (is_asked pairs) n (log_pairs steps)
numbers_are n [] pairs = refl
numbers_are n (r ∷ steps) pairs = ap (λ (ks : List ℕ). cond (is_asked pairs r.pair) (n ∷ ks) ks) (numbers_are (n + 1) steps pairs)

pub member_numbers : (n : ℕ) (steps : List Removal) (pairs : List Pair) (j k : ℕ) (p : Pair) → slice_get (log_pairs steps) j ≡ Some p → Contains pairs p → n + j ≡ k → Contains (numbers_from n steps pairs) k
member_numbers n steps pairs j k p at m same =
    subst (λ (ks : List ℕ). Contains ks k) (sym (numbers_are n steps pairs)) (passed_place (is_asked pairs) n (log_pairs steps) j k p at (member_asked pairs p m) same)

-- a number, and the pair that its step proved
pub record Proved (steps : List Removal) (pairs : List Pair) (n k : ℕ) : Type 0 where
  pub pair : Pair
  pub among : Contains pairs pair
  pub from : n ≤ k
  pub at : slice_get (log_pairs steps) (k - n) ≡ Some pair

pub numbers_member : (n : ℕ) (steps : List Removal) (pairs : List Pair) (k : ℕ) → Contains (numbers_from n steps pairs) k → Proved steps pairs n k
numbers_member n steps pairs k m =
    let p = place_passed (is_asked pairs) n (log_pairs steps) k (subst (λ (ks : List ℕ). Contains ks k) (numbers_are n steps pairs) m) in
    record { pair = p.member; among = asked_member pairs p.member p.passes; from = p.from; at = p.at }

-- ---- rising numbers

same_heads : (x y : ℕ) (xs ys : List ℕ) → Before (λ i j. i < j) (x ∷ xs) → Before (λ i j. i < j) (y ∷ ys) → Contains (y ∷ ys) x → Contains (x ∷ xs) y → x ≡ y
same_heads x y xs ys r s to from = elim (member_cases y ys x to) [
  | inl e ↦ sym e
  | inr c ↦ elim (member_cases x xs y from) [ inl e ↦ e | inr d ↦ absurd (omega (arith, s.0 x c, r.0 y d)) ]
]

tail_member : (x y z : ℕ) (xs ys : List ℕ) → x ≡ y → Before (λ i j. i < j) (x ∷ xs) → Contains xs z → Contains (y ∷ ys) z → Contains ys z
tail_member x y z xs ys e r c d = elim (member_cases y ys z d) [ inl s ↦ absurd (omega (arith, r.0 z c, e, s)) | inr m ↦ m ]

pub same_rising : (xs ys : List ℕ) → Before (λ i j. i < j) xs → Before (λ i j. i < j) ys → ((z : ℕ) → Contains xs z → Contains ys z) → ((z : ℕ) → Contains ys z → Contains xs z) → xs ≡ ys
same_rising [] [] r s to from = refl
same_rising [] (y ∷ ys) r s to from = absurd (member_nil y (from y (member_here y ys)))
same_rising (x ∷ xs) [] r s to from = absurd (member_nil x (to x (member_here x xs)))
same_rising (x ∷ xs) (y ∷ ys) r s to from =
    let heads : x ≡ y = same_heads x y xs ys r s (to x (member_here x xs)) (from y (member_here y ys)) in
    let rest_to = λ (z : ℕ) (c : Contains xs z). tail_member x y z xs ys heads r c (to z (member_there x xs z c)) in
    let rest_from = λ (z : ℕ) (c : Contains ys z). tail_member y x z ys xs (sym heads) s c (from z (member_there y ys z c)) in
    rw (heads, same_rising xs ys r.1 s.1 rest_to rest_from) refl

-- ---- numbers that are collected one by one

-- each is the number of one of the pairs, and each pair has its number among them
pub record Collects (steps : List Removal) (numbers : List ℕ) (pairs : List Pair) : Type 0 where
  pub sound : (k : ℕ) → Contains numbers k → (p : Pair) × Contains pairs p × IsNumberOf steps k p
  pub whole : (p : Pair) → Contains pairs p → (k : ℕ) × Contains numbers k × IsNumberOf steps k p

pub collects_more : (steps : List Removal) (numbers : List ℕ) (pairs : List Pair) (k : ℕ) (p : Pair) → Collects steps numbers pairs → IsNumberOf steps k p → Collects steps (numbers ++ k ∷ []) (pairs ++ p ∷ [])
collects_more steps numbers pairs k p c num = record {
  sound = λ j m. elim (Contains-push_cases numbers k j m) [
    | inl i ↦ let q = c.sound j i in (q.0, Contains-append_left pairs (p ∷ []) q.0 q.1, q.2)
    | inr e ↦ (p, Contains-append_right pairs (p ∷ []) p (member_here p []), subst (λ (z : ℕ). IsNumberOf steps z p) e num)
  ];
  whole = λ q m. elim (Contains-push_cases pairs p q m) [
    | inl i ↦ let r = c.whole q i in (r.0, Contains-append_left numbers (k ∷ []) r.0 r.1, r.2)
    | inr e ↦ (k, Contains-append_right numbers (k ∷ []) k (member_here k []), subst (λ (z : Pair). IsNumberOf steps k z) e num)
  ];
}

-- what a sort and a dedup leave of them
pub collected : (steps : List Removal) (ns ms us : List ℕ) (pairs : List Pair) → Apart (log_pairs steps) → Collects steps ns pairs → IsPermutation ns ms → IsSorted nat_cmp ms → IsFiltered (DiffersFromLast eqb) [] ms us → us ≡ numbers_of steps pairs
collected steps ns ms us pairs apart c moved sorted kept =
    let rising = before_from (λ (i j : ℕ). i < j) (dedup eqb ms) (AllPairs-from_increasing (dedup eqb ms) (IsStrictlyIncreasing-dedup ms sorted)) in
    let to = λ (z : ℕ) (m : Contains (dedup eqb ms) z).
    let q = c.sound z (Contains-permutation ms ns z (IsPermutation-sym ns ms moved) (Contains-from_dedup eqb ms z m)) in
    member_numbers 1 steps pairs (z - 1) z q.0 q.2.at q.1 (omega (arith, q.2.positive)) in
    let from = λ (z : ℕ) (m : Contains (numbers_of steps pairs) z).
    let q = numbers_member 1 steps pairs z m in
    let w = c.whole q.pair q.among in
    let places : w.0 - 1 ≡ z - 1 = same_place (log_pairs steps) apart (w.0 - 1) (z - 1) q.pair w.2.at q.at in
    let e : w.0 ≡ z = omega (arith, places, w.2.positive, q.from) in
    Contains-dedup_nat ms z (Contains-permutation ns ms z moved (member_same ns w.0 z e w.1)) in
    dedup_is eqb ms us kept ∙ same_rising (dedup eqb ms) (numbers_of steps pairs) rising (subst (λ (ks : List ℕ). Before (λ (i j : ℕ). i < j) ks) (sym (numbers_are 1 steps pairs)) (places_rise (is_asked pairs) 1 (log_pairs steps))) to from
