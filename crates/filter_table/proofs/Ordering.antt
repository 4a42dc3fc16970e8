-- Ascending values, where one more belongs, and what it leaves.
use Rattle.std.proofs.Common.{◌≡◌, ℕ, zero, suc, ℤ, ◌+◌, ◌-◌, ◌<◌, ◌≤◌, ◌<ℤ◌, ◌≤ℤ◌, Bool, true, false, int_lt, int_cmp, is_lt, List, [], ◌∷◌, ◌++◌, length, take, drop, filter, get_or, insert, slice_get, Some, All, Contains, ◌⊎◌, inl, inr, refl, sym, ap, ◌∙◌, subst, arith}
use Rattle.std.specs.List.Sorted.{IsPartitionedBy, IsPartitionPoint}
use Rattle.std.proofs.lemmas.Bool.{cases_lt, cases_Bool}
use Rattle.std.proofs.lemmas.Int.{ints}
use Rattle.std.proofs.lemmas.List.{get_or-map, length-drop, length-map, take-append-drop, take_all}
use Rattle.std.proofs.lemmas.List.Edits.{insert-append_right}
use Rattle.std.proofs.lemmas.List.Elements.{All-contains, Contains-append_cases, Contains-append_left, Contains-append_right, Contains-get_or}
use Rattle.std.proofs.lemmas.Option.{get_or_from_slice_get, slice_get-get_or, slice_get_within}
use Rattle.palm_base.proofs.cited.Members.{all_members, filter_member, int_known, member_cases, member_filter, member_here, member_same, member_there}
use Rattle.palm_base.proofs.cited.Sorted.{filter_front, filter_rest}
use Rattle.palm_base.specs.Ascending.{Ascends}
use Rattle.palm_base.specs.Order.{IsPartedAt}
use Rattle.palm_base.specs.declared.terms.Pair.{Pair}
use Rattle.palm_domain.proofs.cited.Comparisons.{ge_from_int_lt, ge_from_is_lt, int_lt_from_ge, int_lt_from_lt, lt_from_int_lt, lt_from_is_lt}
use Rattle.palm_model.proofs.cited.Ascending.{ascends_filter}
use Rattle.palm_model.specs.Removed.{pairs_of}
use Rattle.filter_table.specs.Ordered.{HasValueAt, with_value}

-- ---- ascending values

pub ascends_far : (vs : List ℤ) → Ascends vs → (i j : ℕ) (d : ℤ) → i < j → j < length vs → get_or vs i d <ℤ get_or vs j d
ascends_far [] up i j d before lt = absurd (omega arith)
ascends_far (v ∷ vs) up i zero d before lt = absurd (omega arith)
ascends_far (v ∷ vs) up zero (suc j) d before lt = All-contains (λ w. v <ℤ w) vs (get_or vs j d) up.0 (Contains-get_or vs j d (omega arith))
ascends_far (v ∷ vs) up (suc i) (suc j) d before lt = ascends_far vs up.1 i j d (omega arith) (omega arith)

ascends_joined : (us ws : List ℤ) (v : ℤ) → Ascends us → All (λ u. u <ℤ v) us → All (λ w. v <ℤ w) ws → Ascends ws → Ascends (us ++ v ∷ ws)
ascends_joined [] ws v up below above after = (above, after)
ascends_joined (u ∷ us) ws v up below above after =
    let less = All-contains (λ z. z <ℤ v) (u ∷ us) u below (member_here u us) in (
      all_members (λ z. u <ℤ z) (us ++ v ∷ ws) (λ z m. elim (Contains-append_cases us (v ∷ ws) z m) [
        | inl k ↦ All-contains (λ y. u <ℤ y) us z up.0 k
        | inr k ↦ elim (member_cases v ws z k) [
          | inl e ↦ subst (λ y. u <ℤ y) e less
          | inr j ↦ let more = All-contains (λ y. v <ℤ y) ws z above j in omega (arith, ints, less, more)
        ]
      ]),
      ascends_joined us ws v up.1 (all_members (λ y. y <ℤ v) us (λ y m. All-contains (λ z. z <ℤ v) (u ∷ us) y below (member_there u us y m))) above after,
    )

-- ---- one more value

module _ (vs : List ℤ) (v : ℤ) where
  abbrev lesser : List ℤ
  lesser = filter (λ w. int_lt w v) vs

  abbrev greater : List ℤ
  greater = filter (λ w. int_lt v w) vs

  pub with_ascends : Ascends vs → Ascends (with_value vs v)
  with_ascends up =
      ascends_joined lesser greater v (ascends_filter (λ w. int_lt w v) vs up)
      (all_members (λ w. w <ℤ v) lesser (λ w m. lt_from_int_lt w v (filter_member (λ u. int_lt u v) vs w m).1))
      (all_members (λ w. v <ℤ w) greater (λ w m. lt_from_int_lt v w (filter_member (λ u. int_lt v u) vs w m).1))
      (ascends_filter (λ w. int_lt v w) vs up)

  pub with_itself : Contains (with_value vs v) v
  with_itself = Contains-append_right lesser (v ∷ greater) v (member_here v greater)

  pub with_others : (w : ℤ) → Contains vs w → Contains (with_value vs v) w
  with_others w m = elim (cases_Bool (int_lt w v)) [
    | inl t ↦ Contains-append_left lesser (v ∷ greater) w (member_filter (λ u. int_lt u v) vs w m t)
    | inr f ↦ elim (cases_Bool (int_lt v w)) [
      | inl t ↦ Contains-append_right lesser (v ∷ greater) w (member_there v greater w (member_filter (λ u. int_lt v u) vs w m t))
      | inr g ↦
          let low = ge_from_int_lt w v f in
          let high = ge_from_int_lt v w g in
          let same : v ≡ w = omega (arith, ints, low, high) in
          member_same (with_value vs v) v w same with_itself
    ]
  ]

  pub with_cases : (w : ℤ) → Contains (with_value vs v) w → Contains vs w ⊎ (v ≡ w)
  with_cases w m = elim (Contains-append_cases lesser (v ∷ greater) w m) [
    | inl k ↦ inl (filter_member (λ u. int_lt u v) vs w k).0
    | inr k ↦ elim (member_cases v greater w k) [
      | inl e ↦ inr e
      | inr j ↦ inl (filter_member (λ u. int_lt v u) vs w j).0
    ]
  ]

-- what stands at a place comes before what is left behind it
drop_at : (vs : List ℤ) (k : ℕ) (v : ℤ) → slice_get vs k ≡ Some v → drop k vs ≡ v ∷ drop (suc k) vs
drop_at [] k v at = let lt = slice_get_within [] k v at in absurd (omega (arith, lt))
drop_at (w ∷ vs) zero v at = ap (λ u. u ∷ vs) (get_or_from_slice_get (w ∷ vs) zero v v at)
drop_at (w ∷ vs) (suc k) v at = drop_at vs k v at

module _ (vs : List ℤ) (v : ℤ) (up : Ascends vs) (k : ℕ) (parted : IsPartedAt (λ w. int_lt w v) vs k) where
  front : filter (λ w. int_lt w v) vs ≡ take k vs
  front = filter_front (λ w. int_lt w v) vs k parted.before parted.after

  behind : (j : ℕ) (d : ℤ) → k ≤ j → j < length vs → v ≤ℤ get_or vs j d
  behind j d ge lt = ge_from_int_lt (get_or vs j d) v (parted.after j d ge lt)

  not_greater : (j : ℕ) (d : ℤ) → 0 ≤ j → j < k → int_lt v (get_or vs j d) ≡ false
  not_greater j d ge lt = let less = lt_from_int_lt (get_or vs j d) v (parted.before j d ge lt) in int_lt_from_ge v (get_or vs j d) (omega (arith, ints, less))

  -- where it stands at its place, nothing changes
  pub there_already : slice_get vs k ≡ Some v → vs ≡ with_value vs v
  there_already at =
      let inside = slice_get_within vs k v at in
      let here : (d : ℤ) → get_or vs k d ≡ v = λ d. get_or_from_slice_get vs k v d at in
      let rest : filter (λ w. int_lt v w) vs ≡ drop (suc k) vs =
      filter_rest (λ w. int_lt v w) vs (suc k)
      (λ j d ge lt. elim (cases_lt j k) [
        | inl l ↦ not_greater j d ge l
        | inr le ↦
            let e : j ≡ k = omega arith in
            let same : get_or vs j d ≡ v = ap (λ i. get_or vs i d) e ∙ here d in
            int_lt_from_ge v (get_or vs j d) (omega (arith, ints, same))
      ])
      (λ j d ge lt. let far = ascends_far vs up k j d (omega arith) lt in int_lt_from_lt v (get_or vs j d) (omega (arith, ints, far, here d))) in
      sym (take-append-drop k vs) ∙ ap (λ ws. take k vs ++ ws) (drop_at vs k v at ∙ ap (λ ws. v ∷ ws) (sym rest)) ∙ ap (λ us. us ++ v ∷ filter (λ w. int_lt v w) vs) (sym front)

  -- else it is put there
  pub put_there : (slice_get vs k ≡ Some v → ⊥) → insert vs k v ≡ with_value vs v
  put_there other =
      let rest : filter (λ w. int_lt v w) vs ≡ drop k vs =
      filter_rest (λ w. int_lt v w) vs k not_greater
      (λ j d ge lt. elim (int_known (get_or vs k d) v) [
        | inl e ↦ absurd (other (slice_get-get_or vs k d (omega (arith, ge, lt)) ∙ ap Some e))
        | inr n ↦
            let first = behind k d (omega arith) (omega (arith, ge, lt)) in
            elim (cases_lt k j) [
              | inl l ↦ let far = ascends_far vs up k j d l lt in int_lt_from_lt v (get_or vs j d) (omega (arith, ints, far, first))
              | inr le ↦
                  let e : k ≡ j = omega arith in
                  subst (λ i. int_lt v (get_or vs i d) ≡ true) e (int_lt_from_lt v (get_or vs k d) (above (get_or vs k d) first n))
            ]
      ]) in
      ap (λ ws. take k vs ++ v ∷ ws) (sym rest) ∙ ap (λ us. us ++ v ∷ filter (λ w. int_lt v w) vs) (sym front)
    where
      above : (w : ℤ) → v ≤ℤ w → (w ≡ v → ⊥) → v <ℤ w
      above w le n = elim (cases_Bool (int_lt v w)) [
        | inl t ↦ lt_from_int_lt v w t
        | inr f ↦ let ge = ge_from_int_lt v w f in absurd (n (omega (arith, ints, le, ge)))
      ]

-- ---- their pairs, behind other pairs

abbrev pair_of : ℕ → ℤ → Pair
pair_of y w = record { var = y; value = w }

pub pairs_get : (y : ℕ) (vs : List ℤ) (k : ℕ) (p : Pair) → slice_get (pairs_of y vs) k ≡ Some p → slice_get vs k ≡ Some p.value
pairs_get y [] k p at = let lt = slice_get_within (pairs_of y []) k p at in absurd (omega (arith, lt))
pairs_get y (v ∷ vs) zero p at = ap Some (ap (λ (q : Pair). q.value) (get_or_from_slice_get (pairs_of y (v ∷ vs)) zero p p at))
pairs_get y (v ∷ vs) (suc k) p at = pairs_get y vs k p at

pub get_pairs : (y : ℕ) (vs : List ℤ) (k : ℕ) (v : ℤ) → slice_get vs k ≡ Some v → slice_get (pairs_of y vs) k ≡ Some (pair_of y v)
get_pairs y [] k v at = let lt = slice_get_within [] k v at in absurd (omega (arith, lt))
get_pairs y (w ∷ vs) zero v at = ap Some (ap (pair_of y) (get_or_from_slice_get (w ∷ vs) zero v v at))
get_pairs y (w ∷ vs) (suc k) v at = get_pairs y vs k v at

drop_behind : (before ps : List Pair) (n : ℕ) → n ≡ length before → drop n (before ++ ps) ≡ ps
drop_behind [] ps n e = ap (λ k. drop k ps) e
drop_behind (p ∷ before) ps zero e = absurd (omega (arith, e))
drop_behind (p ∷ before) ps (suc n) e = drop_behind before ps n (omega (arith, e))

-- the rest of a slice from its place on
pub rest_behind : (before ps lent : List Pair) (n : ℕ) → lent ≡ before ++ ps → n ≡ length before → take (length lent - n) (drop n lent) ≡ ps
rest_behind before ps lent n is e =
    let all = length-drop n lent in
    take_all (length lent - n) (drop n lent) (omega (arith, all)) ∙ ap (drop n) is ∙ drop_behind before ps n e

get_behind : (before ps : List Pair) (n k : ℕ) → n ≡ length before + k → slice_get (before ++ ps) n ≡ slice_get ps k
get_behind [] ps n k e = let same : n ≡ k = omega (arith, e) in ap (slice_get ps) same
get_behind (p ∷ before) ps zero k e = absurd (omega (arith, e))
get_behind (p ∷ before) ps (suc n) k e = get_behind before ps n k (omega (arith, e))

insert_pairs : (y : ℕ) (vs : List ℤ) (k : ℕ) (v : ℤ) → insert (pairs_of y vs) k (pair_of y v) ≡ pairs_of y (insert vs k v)
insert_pairs y vs zero v = refl
insert_pairs y [] (suc k) v = refl
insert_pairs y (w ∷ vs) (suc k) v = ap (λ ps. pair_of y w ∷ ps) (insert_pairs y vs k v)

module _ (before : List Pair) (vs : List ℤ) (p : Pair) (from k place : ℕ) (out : List Pair) (long : from ≡ length before) (is : out ≡ before ++ pairs_of p.var vs) (up : Ascends vs)
    (parted : IsPartedAt (λ w. int_lt w p.value) vs k) (at : place ≡ from + k) where
  stands : slice_get out place ≡ slice_get (pairs_of p.var vs) k
  stands = ap (λ ps. slice_get ps place) is ∙ get_behind before (pairs_of p.var vs) place k (omega (arith, long, at))

  pub left_alone : HasValueAt out place p.value → out ≡ before ++ pairs_of p.var (with_value vs p.value)
  left_alone has = is ∙ ap (λ ws. before ++ pairs_of p.var ws) (there_already vs p.value up k parted (pairs_get p.var vs k has.0 (sym stands ∙ has.1) ∙ ap Some has.2))

  pub put_behind : (HasValueAt out place p.value → ⊥) → (now : List Pair) → now ≡ insert out place p → now ≡ before ++ pairs_of p.var (with_value vs p.value)
  put_behind none now put =
      let inside : place - from ≡ k = omega (arith, at) in
      put ∙ ap (λ ps. insert ps place p) is ∙ insert-append_right before (pairs_of p.var vs) from place p (sym long) (omega (arith, at))
      ∙ ap (λ i. before ++ insert (pairs_of p.var vs) i p) inside
      ∙ ap (λ ps. before ++ ps) (insert_pairs p.var vs k p.value
      ∙ ap (pairs_of p.var) (put_there vs p.value up k parted (λ there. none (pair_of p.var p.value, stands ∙ get_pairs p.var vs k p.value there, refl))))

-- ---- found by halves

module _ (y : ℕ) (vs : List ℤ) (v : ℤ) (ps : List Pair) (is : ps ≡ pairs_of y vs) where
  abbrev lower : Pair → Bool
  lower p = is_lt (int_cmp p.value v)

  long : length ps ≡ length vs
  long = ap (λ (qs : List Pair). length qs) is ∙ length-map vs (pair_of y)

  value_is : (i : ℕ) (d : Pair) → i < length vs → (get_or ps i d).value ≡ get_or vs i d.value
  value_is i d lt = ap (λ (qs : List Pair). (get_or qs i d).value) is ∙ ap (λ (q : Pair). q.value) (get_or-map (pair_of y) vs i d.value d lt)

  at_most : (i j : ℕ) (d : ℤ) → Ascends vs → i ≤ j → j < length vs → get_or vs i d ≤ℤ get_or vs j d
  at_most i j d up le lt = elim (cases_lt i j) [
    | inl l ↦ let far = ascends_far vs up i j d l lt in omega (arith, ints, far)
    | inr ge ↦ let e : i ≡ j = omega arith in subst (λ k. get_or vs i d ≤ℤ get_or vs k d) e (omega (arith, ints))
  ]

  is_lower : (i : ℕ) (d : Pair) → i < length vs → get_or vs i d.value <ℤ v → lower (get_or ps i d) ≡ true
  is_lower i d lt less = elim (cases_Bool (lower (get_or ps i d))) [
    | inl t ↦ t
    | inr f ↦ let ge = ge_from_is_lt (get_or ps i d).value v (sym f) in absurd (omega (arith, ints, ge, less, value_is i d lt))
  ]

  pub pairs_parted : Ascends vs → IsPartitionedBy lower ps
  pairs_parted up i j d le lt t =
      let inside : j < length vs = omega (arith, lt, long) in
      let less = lt_from_is_lt (get_or ps j d).value v (sym t) in
      let most = at_most i j d.value up le inside in
      is_lower i d (omega arith) (omega (arith, ints, less, most, value_is j d inside))

  pub values_parted : (n : ℕ) → n ≤ length ps → IsPartitionPoint (λ (p : Pair). lower p ≡ true) (λ (p : Pair). lower p ≡ false) ps n → IsPartedAt (λ w. int_lt w v) vs n
  values_parted n within at = record {
    within = omega (arith, within, long);
    before = λ i d ge lt.
        let inside : i < length vs = omega (arith, lt, within, long) in
        let less = lt_from_is_lt (get_or ps i (pair_of y d)).value v (sym (at.0 i (pair_of y d) (omega arith) lt)) in
        int_lt_from_lt (get_or vs i d) v (omega (arith, ints, less, value_is i (pair_of y d) inside));
    after = λ i d ge lt.
        let more = ge_from_is_lt (get_or ps i (pair_of y d)).value v (sym (at.1 i (pair_of y d) ge (omega (arith, lt, long)))) in
        int_lt_from_ge (get_or vs i d) v (omega (arith, ints, more, value_is i (pair_of y d) lt));
  }
