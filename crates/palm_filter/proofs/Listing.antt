-- Ascending values that a number parts, as intervals of places.
use Rattle.std.proofs.Common.{◌≡◌, ℕ, zero, suc, ℤ, pos, ◌+ℤ◌, ◌<ℤ◌, ◌≤ℤ◌, ◌<◌, ◌≤◌, ◌++◌, Bool, true, false, not, int_lt, int_eq, List, [], ◌∷◌, length, take, drop, get_or, filter, Result, refl, sym, ap, ◌∙◌, inl, inr, arith, append_assoc}
use Rattle.std.specs.Prelude.{OnOk}
use Rattle.std.specs.List.{AllWithin}
use Rattle.std.proofs.lemmas.Bool.{cases_lt}
use Rattle.std.proofs.lemmas.Int.{ints}
use Rattle.std.proofs.lemmas.List.{map-append, take_all}
use Rattle.palm_base.proofs.cited.Sorted.{filter_fails, filter_front, filter_passes, filter_rest}
use Rattle.palm_base.specs.declared.terms.Pair.{Pair}
use Rattle.palm_base.specs.Order.{IsPartedAt}
use Rattle.palm_domain.proofs.cited.Comparisons.{lt_from_int_lt, ge_from_int_lt, int_lt_from_lt, int_lt_from_ge}
use Rattle.palm_model.specs.Domains.{Domains, values_of}
use Rattle.palm_model.specs.Removed.{pairs_of}
use Rattle.palm_filter.specs.Rules.{declared_passing, interval_pairs, listed_pairs}
use Rattle.palm_filter.specs.declared.rule.Interval.{Interval}
use Rattle.palm_filter.proofs.cited.Written.{on_ok}

-- ---- filters by two places

-- where those between the places pass and the others fail, what lies between them is kept
pub filter_middle : {X : Type 0} (test : X → Bool) (xs : List X) (first end : ℕ) → first ≤ end
    → AllWithin (λ x. test x ≡ false) xs 0 first → AllWithin (λ x. test x ≡ true) xs first end → AllWithin (λ x. test x ≡ false) xs end (length xs)
    → filter test xs ≡ drop first (take end xs)
filter_middle test [] zero zero le before between behind = refl
filter_middle test [] zero (suc end) le before between behind = refl
filter_middle test [] (suc first) zero le before between behind = refl
filter_middle test [] (suc first) (suc end) le before between behind = refl
filter_middle test (x ∷ xs) zero end le before between behind = filter_front test (x ∷ xs) end between behind
filter_middle test (x ∷ xs) (suc first) zero le before between behind = absurd (omega arith)
filter_middle test (x ∷ xs) (suc first) (suc end) le before between behind =
    filter_fails test x xs (before 0 x (omega arith) (omega arith))
    ∙ filter_middle test xs first end (omega arith) (λ k d ge lt. before (suc k) d (omega arith) (omega arith)) (λ k d ge lt. between (suc k) d (omega arith) (omega arith)) (λ k d ge lt. behind (suc k) d (omega arith) (omega arith))

-- where those between the places fail and the others pass, what lies before and behind them is kept
pub filter_sides : {X : Type 0} (test : X → Bool) (xs : List X) (first end : ℕ) → first ≤ end
    → AllWithin (λ x. test x ≡ true) xs 0 first → AllWithin (λ x. test x ≡ false) xs first end → AllWithin (λ x. test x ≡ true) xs end (length xs)
    → filter test xs ≡ take first xs ++ drop end xs
filter_sides test [] zero zero le before between behind = refl
filter_sides test [] zero (suc end) le before between behind = refl
filter_sides test [] (suc first) zero le before between behind = refl
filter_sides test [] (suc first) (suc end) le before between behind = refl
filter_sides test (x ∷ xs) zero end le before between behind = filter_rest test (x ∷ xs) end between behind
filter_sides test (x ∷ xs) (suc first) zero le before between behind = absurd (omega arith)
filter_sides test (x ∷ xs) (suc first) (suc end) le before between behind =
    filter_passes test x xs (before 0 x (omega arith) (omega arith))
    ∙ ap (λ ys. x ∷ ys) (filter_sides test xs first end (omega arith) (λ k d ge lt. before (suc k) d (omega arith) (omega arith)) (λ k d ge lt. between (suc k) d (omega arith) (omega arith)) (λ k d ge lt. behind (suc k) d (omega arith) (omega arith)))

-- ---- values that a number parts

not_less : (w n : ℤ) → n ≤ℤ w → not (int_lt w n) ≡ true
not_less w n le = ap not (int_lt_from_ge w n le)

less : (w n : ℤ) → w <ℤ n → not (int_lt w n) ≡ false
less w n lt = ap not (int_lt_from_lt w n lt)

same : (w n : ℤ) → w ≤ℤ n → n ≤ℤ w → int_eq w n ≡ true
same w n le ge = grind (arith, ints)

lower : (w n : ℤ) → w <ℤ n → int_eq w n ≡ false
lower w n lt = grind (arith, ints)

higher : (w n : ℤ) → n <ℤ w → int_eq w n ≡ false
higher w n lt = grind (arith, ints)

module _ (vs : List ℤ) (n : ℤ) (first : ℕ) (low : IsPartedAt (λ w. int_lt w n) vs first) where
  below : (k : ℕ) (d : ℤ) → k < first → get_or vs k d <ℤ n
  below k d lt = lt_from_int_lt (get_or vs k d) n (low.before k d (omega arith) lt)

  from : (k : ℕ) (d : ℤ) → first ≤ k → k < length vs → n ≤ℤ get_or vs k d
  from k d ge lt = ge_from_int_lt (get_or vs k d) n (low.after k d ge lt)

  pub values_from : drop first vs ≡ filter (λ w. not (int_lt w n)) vs
  values_from =
      sym (filter_rest (λ w. not (int_lt w n)) vs first
      (λ k d ge lt. less (get_or vs k d) n (below k d lt))
      (λ k d ge lt. not_less (get_or vs k d) n (from k d ge lt)))

module _ (vs : List ℤ) (n : ℤ) (end : ℕ) (high : IsPartedAt (λ w. int_lt w (n +ℤ pos 1)) vs end) where
  up_to : (k : ℕ) (d : ℤ) → k < end → get_or vs k d ≤ℤ n
  up_to k d lt = omega (arith, ints, below vs (n +ℤ pos 1) end high k d lt)

  above : (k : ℕ) (d : ℤ) → end ≤ k → k < length vs → n <ℤ get_or vs k d
  above k d ge lt = omega (arith, ints, from vs (n +ℤ pos 1) end high k d ge lt)

  pub values_up_to : take end vs ≡ filter (λ w. not (int_lt n w)) vs
  values_up_to =
      sym (filter_front (λ w. not (int_lt n w)) vs end
      (λ k d ge lt. not_less n (get_or vs k d) (up_to k d lt))
      (λ k d ge lt. less n (get_or vs k d) (above k d ge lt)))

module _ (vs : List ℤ) (n : ℤ) (first end : ℕ) (low : IsPartedAt (λ w. int_lt w n) vs first) (high : IsPartedAt (λ w. int_lt w (n +ℤ pos 1)) vs end) where
  ordered : first ≤ end
  ordered = elim (cases_lt end first) [
    | inl lt ↦ absurd (omega (arith, ints, below vs n first low end n lt, above vs n end high end n (omega arith) (omega (arith, lt, low.within))))
    | inr le ↦ le
  ]

  pub values_at : drop first (take end vs) ≡ filter (λ w. int_eq w n) vs
  values_at =
      sym (filter_middle (λ w. int_eq w n) vs first end ordered
      (λ k d ge lt. lower (get_or vs k d) n (below vs n first low k d lt))
      (λ k d ge lt. same (get_or vs k d) n (up_to vs n end high k d lt) (from vs n first low k d ge (omega (arith, lt, high.within))))
      (λ k d ge lt. higher (get_or vs k d) n (above vs n end high k d ge lt)))

  pub values_but : take first vs ++ drop end vs ≡ filter (λ w. not (int_eq w n)) vs
  values_but =
      sym (filter_sides (λ w. not (int_eq w n)) vs first end ordered
      (λ k d ge lt. ap not (lower (get_or vs k d) n (below vs n first low k d lt)))
      (λ k d ge lt. ap not (same (get_or vs k d) n (up_to vs n end high k d lt) (from vs n first low k d ge (omega (arith, lt, high.within)))))
      (λ k d ge lt. ap not (higher (get_or vs k d) n (above vs n end high k d ge lt))))

-- ---- their pairs as intervals

abbrev pair_of : ℕ → ℤ → Pair
pair_of y w = record { var = y; value = w }

-- what was listed behind nothing is the whole list
pub listed_alone : {T E : Type 0} (d : Domains) (before now : List Interval) (pairs wanted : List Pair) (result : Result T E) → before ≡ [] → pairs ≡ wanted
    → OnOk result (listed_pairs d now ≡ listed_pairs d before ++ pairs) → OnOk result (listed_pairs d now ≡ wanted)
listed_alone d before now pairs wanted result none same listed =
    on_ok (listed_pairs d now ≡ listed_pairs d before ++ pairs) (listed_pairs d now ≡ wanted) result (λ e. e ∙ ap (λ is. listed_pairs d is ++ pairs) none ∙ same) listed

module _ (d : Domains) (y : ℕ) (n : ℤ) where
  pub pairs_from : (first end : ℕ) → IsPartedAt (λ w. int_lt w n) (values_of d y) first → end ≡ length (values_of d y) → interval_pairs d (record { var = y; first = first; end = end }) ≡ declared_passing d y (λ w. not (int_lt w n))
  pairs_from first end low whole = ap (λ vs. pairs_of y (drop first vs)) (take_all end (values_of d y) (omega (arith, whole))) ∙ ap (pairs_of y) (values_from (values_of d y) n first low)

  pub pairs_up_to : (end : ℕ) → IsPartedAt (λ w. int_lt w (n +ℤ pos 1)) (values_of d y) end → interval_pairs d (record { var = y; first = 0; end = end }) ≡ declared_passing d y (λ w. not (int_lt n w))
  pairs_up_to end high = ap (pairs_of y) (values_up_to (values_of d y) n end high)

  pub pairs_at : (first end : ℕ) → IsPartedAt (λ w. int_lt w n) (values_of d y) first → IsPartedAt (λ w. int_lt w (n +ℤ pos 1)) (values_of d y) end → interval_pairs d (record { var = y; first = first; end = end }) ≡ declared_passing d y (λ w. int_eq w n)
  pairs_at first end low high = ap (pairs_of y) (values_at (values_of d y) n first end low high)

  pub listed_sides : (first end count : ℕ) → IsPartedAt (λ w. int_lt w n) (values_of d y) first → IsPartedAt (λ w. int_lt w (n +ℤ pos 1)) (values_of d y) end → count ≡ length (values_of d y)
      → (before between now : List Interval)
      → listed_pairs d between ≡ listed_pairs d before ++ interval_pairs d (record { var = y; first = 0; end = first })
      → listed_pairs d now ≡ listed_pairs d between ++ interval_pairs d (record { var = y; first = end; end = count })
      → listed_pairs d now ≡ listed_pairs d before ++ declared_passing d y (λ w. not (int_eq w n))
  listed_sides first end count low high whole before between now one two =
      let vs = values_of d y in
      two
      ∙ ap (λ ps. ps ++ pairs_of y (drop end (take count vs))) one
      ∙ append_assoc (listed_pairs d before) (pairs_of y (take first vs)) (pairs_of y (drop end (take count vs)))
      ∙ ap (λ ws. listed_pairs d before ++ (pairs_of y (take first vs) ++ pairs_of y (drop end ws))) (take_all count vs (omega (arith, whole)))
      ∙ ap (λ ps. listed_pairs d before ++ ps) (sym (map-append (pair_of y) (take first vs) (drop end vs)) ∙ ap (pairs_of y) (values_but vs n first end low high))
