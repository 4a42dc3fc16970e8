-- The places of a value stand together where places are sorted by their values.
use Rattle.std.proofs.Common.{◌≡◌, ℕ, zero, suc, ℤ, pos, eqb, eq-eqb, ◌+ℤ◌, ◌+◌, ◌-◌, ◌<◌, ◌≤◌, ◌<ℤ◌, ◌≤ℤ◌, Bool, true, false, List, [], ◌∷◌, ◌++◌, length, take, drop, get_or, Contains, slice_get, Some, map, Ordering, nat_cmp, int_cmp, is_lt, is_le, inl, inr, refl, sym, ap, ◌∙◌, subst, arith}
use Rattle.std.specs.Cmp.{IsTotalOrder}
use Rattle.std.specs.List.Sorted.{IsPermutation, IsSortedBy, IsPartitionedBy, IsPartitionPoint}
use Rattle.std.specs.Ordering.{ordering_then}
use Rattle.std.proofs.lemmas.Cmp.{by_ranked, int_cmp_total, int_ranked, nat_cmp_total, on_total, ranked, then_total}
use Rattle.std.proofs.lemmas.Int.{ints}
use Rattle.std.proofs.lemmas.Bool.{cases_lt, false≢true}
use Rattle.std.proofs.lemmas.List.{get_or-take, get_or-drop, length-take, length-drop}
use Rattle.std.proofs.lemmas.List.Elements.{Contains-get_or, Contains-push_cases, Contains-append_left, Contains-append_right}
use Rattle.std.proofs.lemmas.List.Sorted.{ranks_by, sorted_far, Contains-permutation, IsPermutation-sym}
use Rattle.std.proofs.lemmas.Option.{slice_get_within, get_or_from_slice_get, slice_get-get_or}
use Rattle.std.specs.List.{AllByRecursion, IsDistinct}
use Rattle.std.proofs.lemmas.Bool.{both_ways, eqb-true}
use Rattle.std.proofs.lemmas.Map.Keys.{IsDistinct-IsPermutation}
use Rattle.palm_base.proofs.cited.Members.{all_members, member_cases, member_here, member_nil, member_same, member_there, member_unmap}
use Rattle.palm_base.specs.Ascending.{Ascends}
use Rattle.palm_domain.proofs.cited.Comparisons.{lt_from_is_lt, ge_from_is_lt, le_from_is_le, gt_from_is_le}
use Rattle.palm_model.specs.Constraint.{Distinct}
use Rattle.palm_filter.specs.Index.{IsIndex, IsStart, value_at}

-- ---- the places of a list, one after another

pub places_within : (places now : List ℕ) (n : ℕ) → ((k : ℕ) → Contains places k → k < n) → now ≡ places ++ n ∷ [] → (k : ℕ) → Contains now k → k < n + 1
places_within places now n within is k m = elim (Contains-push_cases places n k (subst (λ ks. Contains ks k) is m)) [
  | inl h ↦ let l = within k h in omega arith
  | inr e ↦ omega (arith, e)
]

pub places_every : (places now : List ℕ) (n : ℕ) → ((k : ℕ) → k < n → Contains places k) → now ≡ places ++ n ∷ [] → (k : ℕ) → k < n + 1 → Contains now k
places_every places now n every is k lt = subst (λ ks. Contains ks k) (sym is) (elim (cases_lt k n) [
  | inl l ↦ Contains-append_left places (n ∷ []) k (every k l)
  | inr ge ↦ let e : n ≡ k = omega arith in Contains-append_right places (n ∷ []) k (subst (λ z. Contains (n ∷ []) z) e (member_here n []))
])

-- ---- no place stands twice

pub distinct_more : (places : List ℕ) (n : ℕ) → ((k : ℕ) → Contains places k → k < n) → Distinct places → Distinct (places ++ n ∷ [])
distinct_more [] n within once = (member_nil n, tt)
distinct_more (p ∷ ps) n within once = (
  λ m. elim (Contains-push_cases ps n p m) [
    | inl h ↦ once.0 h
    | inr e ↦ let l = within p (member_here p ps) in absurd (omega (arith, e, l))
  ],
  distinct_more ps n (λ k m. within k (member_there p ps k m)) once.1,
)

pub distinct_now : (places now : List ℕ) (n : ℕ) → ((k : ℕ) → Contains places k → k < n) → Distinct places → now ≡ places ++ n ∷ [] → Distinct now
distinct_now places now n within once is = subst Distinct (sym is) (distinct_more places n within once)

apart : (xs : List ℕ) (x : ℕ) → (Contains xs x → ⊥) → AllByRecursion (λ y. eqb x y ≡ false) xs
apart [] x n = tt
apart (y ∷ ys) x n = (not_true (eqb x y) (λ t. n (subst (λ z. Contains (z ∷ ys) x) (eqb-true x y t) (member_here x ys))), apart ys x (λ m. n (member_there y ys x m)))
  where
    not_true : (b : Bool) → (b ≡ true → ⊥) → b ≡ false
    not_true true h = absurd (h refl)
    not_true false h = refl

not_apart : (xs : List ℕ) (x : ℕ) → AllByRecursion (λ y. eqb x y ≡ false) xs → Contains xs x → ⊥
not_apart [] x h m = member_nil x m
not_apart (y ∷ ys) x h m = elim (member_cases y ys x m) [
  | inl e ↦ both_ways (eqb x y) h.0 (eq-eqb x y (sym e))
  | inr k ↦ not_apart ys x h.1 k
]

keys_apart : (xs : List ℕ) → Distinct xs → IsDistinct eqb xs
unfolding IsDistinct
keys_apart [] once = tt
keys_apart (x ∷ xs) once = (apart xs x once.0, keys_apart xs once.1)

members_apart : (xs : List ℕ) → IsDistinct eqb xs → Distinct xs
unfolding IsDistinct
members_apart [] once = tt
members_apart (x ∷ xs) once = (not_apart xs x once.0, members_apart xs once.1)

eqb_flips : (x y : ℕ) → eqb x y ≡ eqb y x
eqb_flips x y = same (eqb x y) (eqb y x) (λ t. eq-eqb y x (sym (eqb-true x y t))) (λ t. eq-eqb x y (sym (eqb-true y x t)))
  where
    same : (a b : Bool) → (a ≡ true → b ≡ true) → (b ≡ true → a ≡ true) → a ≡ b
    same true b f g = sym (f refl)
    same false true f g = g refl
    same false false f g = refl

pub distinct_moved : (places moved : List ℕ) → IsPermutation places moved → Distinct places → Distinct moved
distinct_moved places moved is once = members_apart moved (IsDistinct-IsPermutation eqb eqb_flips places moved is (keys_apart places once))

distinct_drop : (n : ℕ) (xs : List ℕ) → Distinct xs → Distinct (drop n xs)
distinct_drop zero xs once = once
distinct_drop (suc n) [] once = tt
distinct_drop (suc n) (x ∷ xs) once = distinct_drop n xs once.1

taken_member : (n : ℕ) (xs : List ℕ) (k : ℕ) → Contains (take n xs) k → Contains xs k
taken_member zero xs k m = absurd (member_nil k m)
taken_member (suc n) [] k m = m
taken_member (suc n) (x ∷ xs) k m = elim (member_cases x (take n xs) k m) [
  | inl e ↦ subst (λ z. Contains (z ∷ xs) k) (sym e) (member_here k xs)
  | inr h ↦ member_there x xs k (taken_member n xs k h)
]

distinct_take : (n : ℕ) (xs : List ℕ) → Distinct xs → Distinct (take n xs)
distinct_take zero xs once = tt
distinct_take (suc n) [] once = tt
distinct_take (suc n) (x ∷ xs) once = (λ m. once.0 (taken_member n xs x m), distinct_take n xs once.1)

pub part_once : (places : List ℕ) (from end : ℕ) → Distinct places → Distinct (take (end - from) (drop from places))
part_once places from end once = distinct_take (end - from) (drop from places) (distinct_drop from places once)

-- ---- sorted by their values

-- the order by value, and where values are equal by place
abbrev pub by_value : List ℤ → ℕ → ℕ → Ordering
by_value values j k = ordering_then (int_cmp (value_at values j) (value_at values k)) (nat_cmp j k)

by_value_total : (values : List ℤ) → IsTotalOrder (by_value values)
by_value_total values = then_total (on_total (value_at values) int_cmp_total) (on_total (λ (k : ℕ). k) nat_cmp_total)

-- the first place does not come after the second one
record IsUpTo (values : List ℤ) (j k : ℕ) : Type 0 where
  value : value_at values j ≤ℤ value_at values k
  place : value_at values j ≡ value_at values k → j ≤ k

up_to : (values : List ℤ) (j k : ℕ) → is_lt (by_value values k j) ≡ false → IsUpTo values j k
up_to values j k e =
    let v = value_at values j in
    let w = value_at values k in
    by_ranked (w <ℤ v) (w ≡ v) (v <ℤ w) (int_cmp w v) (int_ranked w v (int_cmp w v) refl)
    (λ is lt. absurd (false≢true (sym e ∙ ap (λ (o : Ordering). is_lt (ordering_then o (nat_cmp k j))) is)))
    (λ is same.
    by_ranked (k < j) (k ≡ j) (j < k) (nat_cmp k j) (ranked k j (nat_cmp k j) refl)
    (λ too lt. absurd (false≢true (sym e ∙ ap (λ (o : Ordering). is_lt (ordering_then o (nat_cmp k j))) is ∙ ap is_lt too)))
    (λ too one. record { value = omega (arith, ints, same); place = λ _. omega (arith, one) })
    (λ too lt. record { value = omega (arith, ints, same); place = λ _. omega (arith, lt) }))
    (λ is lt. record { value = omega (arith, ints, lt); place = λ one. absurd (omega (arith, ints, lt, one)) })

-- different places of a list without repeats have different numbers
distinct_apart : (ks : List ℕ) → Distinct ks → (i j d : ℕ) → i < j → j < length ks → get_or ks i d ≡ get_or ks j d → ⊥
distinct_apart [] once i j d before lt e = absurd (omega arith)
distinct_apart (k ∷ ks) once i zero d before lt e = absurd (omega arith)
distinct_apart (k ∷ ks) once zero (suc j) d before lt e = once.0 (member_same ks (get_or ks j d) k (sym e) (Contains-get_or ks j d (omega arith)))
distinct_apart (k ∷ ks) once (suc i) (suc j) d before lt e = distinct_apart ks once.1 i j d (omega arith) (omega arith) e

pub index_from_sort : (values : List ℤ) (places sorted : List ℕ) (n : ℕ) → n ≡ length values → ((k : ℕ) → Contains places k → k < n) → ((k : ℕ) → k < n → Contains places k) → Distinct places → IsPermutation places sorted → IsSortedBy (λ j k. is_lt (by_value values j k)) sorted → IsIndex values sorted
index_from_sort values places sorted n e within every once moved up =
    let apart = distinct_moved places sorted moved once in
    let told : (i j d : ℕ) → i ≤ j → j < length sorted → IsUpTo values (get_or sorted i d) (get_or sorted j d)
    = λ i j d le lt. up_to values (get_or sorted i d) (get_or sorted j d) (sorted_far (λ j k. is_lt (by_value values j k)) (ranks_by (by_value_total values) (λ (k : ℕ). k)) sorted up i j d le lt) in
    record {
      within = λ k m. let l = within k (Contains-permutation sorted places k (IsPermutation-sym places sorted moved) m) in omega arith;
      every = λ k lt. Contains-permutation places sorted k moved (every k (omega arith));
      once = apart;
      rise = λ i j d le lt. (told i j d le lt).value;
      ascend = λ i j d before lt same.
          let le = (told i j d (omega (arith, before)) lt).place same in
          elim (cases_lt (get_or sorted i d) (get_or sorted j d)) [
            | inl l ↦ l
            | inr ge ↦ absurd (distinct_apart sorted apart i j d before lt (omega (arith, le, ge)))
          ];
    }

-- ---- places that rise ascend as numbers

rising_ascends : (ks : List ℕ) → ((i j d : ℕ) → i < j → j < length ks → get_or ks i d < get_or ks j d) → Ascends (map pos ks)
rising_ascends [] up = tt
rising_ascends (k ∷ ks) up = (
  all_members (λ w. pos k <ℤ w) (map pos ks) (λ w m.
      let r = member_unmap pos ks w m in
      let lt = up 0 (suc r.1.0) r.0 (omega arith) (omega (arith, r.1.1)) in
      let above : k < r.0 = subst (λ n. k < n) r.1.2 lt in
      subst (λ u. pos k <ℤ u) r.2 (omega (arith, ints, above))),
  rising_ascends ks (λ i j d before lt. up (suc i) (suc j) d (omega arith) (omega arith)),
)

-- ---- found by halves

not_false : (b : Bool) → (false ≡ b → ⊥) → b ≡ true
not_false true n = refl
not_false false n = absurd (n refl)

is_lt_from_lt : (v w : ℤ) → v <ℤ w → is_lt (int_cmp v w) ≡ true
is_lt_from_lt v w lt = not_false (is_lt (int_cmp v w)) (λ e. let ge = ge_from_is_lt v w e in omega (arith, ints, ge))

is_le_from_le : (v w : ℤ) → v ≤ℤ w → is_le (int_cmp v w) ≡ true
is_le_from_le v w le = not_false (is_le (int_cmp v w)) (λ e. let gt = gt_from_is_le v w e in omega (arith, ints, gt))

module _ (values : List ℤ) (places : List ℕ) (index : IsIndex values places) (v : ℤ) where
  pub below_parted : IsPartitionedBy (λ k. is_lt (int_cmp (value_at values k) v)) places
  below_parted i j d le lt h =
      let up = index.rise i j d le lt in
      let low = lt_from_is_lt (value_at values (get_or places j d)) v (sym h) in
      is_lt_from_lt (value_at values (get_or places i d)) v (omega (arith, ints, up, low))

  pub up_to_parted : IsPartitionedBy (λ k. is_le (int_cmp (value_at values k) v)) places
  up_to_parted i j d le lt h =
      let up = index.rise i j d le lt in
      let low = le_from_is_le (value_at values (get_or places j d)) v (sym h) in
      is_le_from_le (value_at values (get_or places i d)) v (omega (arith, ints, up, low))

  pub start_by_halves : (from : ℕ) → from ≤ length places → IsPartitionPoint (λ k. is_lt (int_cmp (value_at values k) v) ≡ true) (λ k. is_lt (int_cmp (value_at values k) v) ≡ false) places from → IsStart values places v from
  start_by_halves from within at = record {
    within = within;
    before = λ i d lt. lt_from_is_lt (value_at values (get_or places i d)) v (sym (at.0 i d (omega arith) lt));
    after = λ i d ge lt. ge_from_is_lt (value_at values (get_or places i d)) v (sym (at.1 i d ge lt));
  }

  pub next_by_halves : (end : ℕ) → end ≤ length places → IsPartitionPoint (λ k. is_le (int_cmp (value_at values k) v) ≡ true) (λ k. is_le (int_cmp (value_at values k) v) ≡ false) places end → IsStart values places (v +ℤ pos 1) end
  next_by_halves end within at = record {
    within = within;
    before = λ i d lt. let low = le_from_is_le (value_at values (get_or places i d)) v (sym (at.0 i d (omega arith) lt)) in omega (arith, ints, low);
    after = λ i d ge lt. let high = gt_from_is_le (value_at values (get_or places i d)) v (sym (at.1 i d ge lt)) in omega (arith, ints, high);
  }

-- ---- from the start of a number up to that of the next one

module _ (values : List ℤ) (places : List ℕ) (index : IsIndex values places) (v : ℤ) (from end : ℕ) (start : IsStart values places v from) (next : IsStart values places (v +ℤ pos 1) end) where
  pub ordered : from ≤ end
  ordered = elim (cases_lt end from) [
    | inl lt ↦
        let low = start.before end 0 lt in
        let high = next.after end 0 (omega arith) (omega (arith, start.within)) in
        absurd (omega (arith, ints, low, high))
    | inr ge ↦ ge
  ]

  stands_at : (x d : ℕ) → from ≤ x → x < end → slice_get values (get_or places x d) ≡ Some v
  stands_at x d ge lt =
      let k = get_or places x d in
      let inside_places : x < length places = omega (arith, next.within) in
      let low = start.after x d ge inside_places in
      let high = next.before x d lt in
      let same : value_at values k ≡ v = omega (arith, ints, low, high) in
      let inside : k < length values = index.within k (Contains-get_or places x d inside_places) in
      slice_get-get_or values k (pos 0) inside ∙ ap Some same

  pub part_stands : (k : ℕ) → Contains (take (end - from) (drop from places)) k → slice_get values k ≡ Some v
  part_stands k m =
      let x = m.0 in
      let x_low : x < end - from = omega (arith, m.1, length-take (end - from) (drop from places)) in
      let e : get_or places (from + x) k ≡ k = sym (get_or-take (end - from) (drop from places) x k x_low ∙ get_or-drop from places x k) ∙ m.2 in
      subst (λ z. slice_get values z ≡ Some v) e (stands_at (from + x) k (omega arith) (omega arith))

  pub part_every : (k : ℕ) → slice_get values k ≡ Some v → Contains (take (end - from) (drop from places)) k
  part_every k h =
      let inside : k < length values = slice_get_within values k v h in
      let same : value_at values k ≡ v = get_or_from_slice_get values k v (pos 0) h in
      let m = index.every k inside in
      let j = m.0 in
      let at : value_at values (get_or places j k) ≡ v = ap (value_at values) m.2 ∙ same in
      let j_from : from ≤ j = elim (cases_lt j from) [
        | inl lt ↦ let low = start.before j k lt in absurd (omega (arith, ints, low, at))
        | inr ge ↦ ge
      ] in
      let j_end : j < end = elim (cases_lt j end) [
        | inl lt ↦ lt
        | inr ge ↦ let high = next.after j k ge m.1 in absurd (omega (arith, ints, high, at))
      ] in
      let back : from + (j - from) ≡ j = omega arith in
      let here : get_or (take (end - from) (drop from places)) (j - from) k ≡ k =
      get_or-take (end - from) (drop from places) (j - from) k (omega arith) ∙ get_or-drop from places (j - from) k ∙ ap (λ z. get_or places z k) back ∙ m.2 in
      (j - from, omega (arith, length-take (end - from) (drop from places), length-drop from places), here)

  value_there : (x d : ℕ) → from ≤ x → x < end → value_at values (get_or places x d) ≡ v
  value_there x d ge lt = get_or_from_slice_get values (get_or places x d) v (pos 0) (stands_at x d ge lt)

  pub part_ascends : Ascends (map pos (take (end - from) (drop from places)))
  part_ascends = rising_ascends (take (end - from) (drop from places)) (λ i j d before lt.
      let far : j < end - from = omega (arith, lt, length-take (end - from) (drop from places)) in
      let at : (x : ℕ) → x < end - from → get_or (take (end - from) (drop from places)) x d ≡ get_or places (from + x) d
      = λ x l. get_or-take (end - from) (drop from places) x d l ∙ get_or-drop from places x d in
      let up = index.ascend (from + i) (from + j) d (omega arith) (omega (arith, next.within)) (value_there (from + i) d (omega arith) (omega arith) ∙ sym (value_there (from + j) d (omega arith) (omega arith))) in
      omega (arith, at i (omega arith), at j far, up))
