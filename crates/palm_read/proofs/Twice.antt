-- A text that stands twice in a list is lost where the list is sorted and freed of repeats.
use Rattle.std.proofs.Common.{◌≡◌, ℕ, ◌+◌, ◌<◌, ◌≤◌, Bool, true, false, cond, List, [], ◌∷◌, length, map, Contains, Ordering, Less, Equal, refl, sym, ap, ◌∙◌, subst, arith, inl, inr, ◌⊎◌}
use Rattle.palm_base.specs.Tells.{Tells}
use Rattle.std.specs.Cmp.Lexicographic.{slice_cmp, on_texts, texts_ties}
use Rattle.std.proofs.Math.Seq.{take-append_seam}
use Rattle.std.specs.List.{refill, dedup, dedup_from, AllByRecursion, sum_by}
use Rattle.std.specs.List.Sorted.{IsPermutation, IsSorted, IsStrictlySortedBy}
use Rattle.std.specs.Ordering.{nat_cmp}
use Rattle.std.specs.Str.{bytes_eq}
use Rattle.std.proofs.lemmas.Bool.{cases_lt}
use Rattle.std.proofs.lemmas.Cmp.{nat_list_cmp_total, tied_itself}
use Rattle.std.proofs.lemmas.List.Kept.{IsStrictlySortedBy-dedup}
use Rattle.std.proofs.lemmas.List.Sums.{sum_by-cons}
use Rattle.std.proofs.lemmas.List.Sorted.{sum_by-IsPermutation, IsPermutation-map, IsPermutation-sym, length_permutation}
use Rattle.std.proofs.lemmas.Slice.Eq.{bytes_eq-Decides}
use Rattle.palm_read.specs.Limits.{Repeats}
use Rattle.palm_read.proofs.cited.Sets.{contains_here, contains_there, contains_cases}

-- ---- a list behind a reference, written over as a whole

pub refilled : {X : Type 0} (ts ws : List X) → length ws ≡ length ts → refill (length ts) ts ws ≡ ws
refilled ts ws long = ap (λ n. refill n ts ws) (sym long) ∙ take-append_seam ws _

-- ---- how often a text stands in a list

times : List ℕ → List (List ℕ) → ℕ
times x ts = sum_by (λ t. cond (bytes_eq t x) 1 0) ts

no_times : (x : List ℕ) → 1 ≤ times x [] → ⊥
unfolding times
no_times x h = absurd (omega arith)

abbrev one_for : List ℕ → List ℕ → ℕ
one_for x t = cond (bytes_eq t x) 1 0

times-cons : (x t : List ℕ) (ts : List (List ℕ)) → times x (t ∷ ts) ≡ one_for x t + times x ts
unfolding times
times-cons x t ts = sum_by-cons (one_for x) t ts

one_same : (x t : List ℕ) → t ≡ x → one_for x t ≡ 1
one_same x t e = rw (e, (bytes_eq-Decides x x).1 refl) refl

-- a text is the same or is not counted
one_cases : (x t : List ℕ) → (t ≡ x) ⊎ (one_for x t ≡ 0)
one_cases x t = go (bytes_eq t x) refl
  where
    go : (b : Bool) → bytes_eq t x ≡ b → (t ≡ x) ⊎ (one_for x t ≡ 0)
    go true e = inl ((bytes_eq-Decides t x).0 e)
    go false e = inr (rw e refl)

contained_once : (x : List ℕ) (ts : List (List ℕ)) → Contains ts x → 1 ≤ times x ts
contained_once x [] c = absurd (omega (arith, c.1))
contained_once x (t ∷ ts) c =
    elim (contains_cases t x ts c) [
      | inl e ↦ omega (arith, times-cons x t ts, one_same x t e)
      | inr d ↦ omega (arith, times-cons x t ts, contained_once x ts d)
    ]

once_contained : (x : List ℕ) (ts : List (List ℕ)) → 1 ≤ times x ts → Contains ts x
once_contained x [] h = absurd (no_times x h)
once_contained x (t ∷ ts) h =
    elim (one_cases x t) [
      | inl e ↦ rw (← e) (contains_here t ts)
      | inr none ↦ contains_there t x ts (once_contained x ts (omega (arith, times-cons x t ts, none)))
    ]

repeated_twice : (ts : List (List ℕ)) → Repeats ts → (x : List ℕ) × (2 ≤ times x ts)
repeated_twice [] r = absurd r
repeated_twice (t ∷ ts) r =
    elim r [
      | inl c ↦ (t, omega (arith, times-cons t t ts, one_same t t refl, contained_once t ts c))
      | inr later ↦
          let more = repeated_twice ts later in
          (more.0, omega (arith, times-cons more.0 t ts, more.1))
    ]

twice_repeated : (x : List ℕ) (ts : List (List ℕ)) → 2 ≤ times x ts → Repeats ts
twice_repeated x [] h = absurd (no_times x (omega arith))
twice_repeated x (t ∷ ts) h =
    elim (one_cases x t) [
      | inl e ↦ inl (rw e (once_contained x ts (omega (arith, times-cons x t ts, one_same x t e))))
      | inr none ↦ inr (twice_repeated x ts (omega (arith, times-cons x t ts, none)))
    ]

pub repeats_moved : (ts us : List (List ℕ)) → IsPermutation ts us → Repeats ts → Repeats us
unfolding times
repeats_moved ts us moved r =
    let x = repeated_twice ts r in
    twice_repeated x.0 us (omega (arith, sum_by-IsPermutation (one_for x.0) ts us moved, x.1))

-- ---- what a dedup leaves

not_less : (o : Ordering) → o ≡ Equal → o ≡ Less → ⊥
not_less o e h = absurd (cc (sym e ∙ h))

module _ {X : Type 0} (f : X → List ℕ) where
  abbrev cmp_by : X → X → Ordering
  cmp_by a b = slice_cmp nat_cmp (f a) (f b)

  abbrev eq_by : X → X → Bool
  eq_by a b = bytes_eq (f a) (f b)

  -- what is dropped stood before
  dropped_repeats : (k : X) (xs : List X) → length (dedup_from eq_by k xs) < length (k ∷ xs) → Repeats (map f (k ∷ xs))
  dropped_repeats k [] h = absurd (omega arith)
  dropped_repeats k (x ∷ xs) h = go (eq_by x k) refl (dropped_repeats x xs) h
    where
      go : (b : Bool) → eq_by x k ≡ b → (length (dedup_from eq_by x xs) < length (x ∷ xs) → Repeats (map f (x ∷ xs))) → length (cond b (dedup_from eq_by k xs) (k ∷ dedup_from eq_by x xs)) < length (k ∷ x ∷ xs) → Repeats (map f (k ∷ x ∷ xs))
      go true e rec h =
          let same : f x ≡ f k = (bytes_eq-Decides (f x) (f k)).0 e in
          inl (subst (λ t. Contains (f x ∷ map f xs) t) same (contains_here (f x) (map f xs)))
      go false e rec h = inr (rec (omega arith))

  length-dedup_from : (k : X) (xs : List X) → length (dedup_from eq_by k xs) ≤ length (k ∷ xs)
  length-dedup_from k [] = omega arith
  length-dedup_from k (x ∷ xs) = go (eq_by x k) (length-dedup_from k xs) (length-dedup_from x xs)
    where
      go : (b : Bool) → length (dedup_from eq_by k xs) ≤ length (k ∷ xs) → length (dedup_from eq_by x xs) ≤ length (x ∷ xs) → length (cond b (dedup_from eq_by k xs) (k ∷ dedup_from eq_by x xs)) ≤ length (k ∷ x ∷ xs)
      go true h j = omega arith
      go false h j = omega arith

  -- where nothing is dropped the list stays
  kept_whole : (k : X) (xs : List X) → length (k ∷ xs) ≤ length (dedup_from eq_by k xs) → dedup_from eq_by k xs ≡ k ∷ xs
  kept_whole k [] h = refl
  kept_whole k (x ∷ xs) h = go (eq_by x k) (length-dedup_from k xs) (kept_whole x xs) h
    where
      go : (b : Bool) → length (dedup_from eq_by k xs) ≤ length (k ∷ xs) → (length (x ∷ xs) ≤ length (dedup_from eq_by x xs) → dedup_from eq_by x xs ≡ x ∷ xs) → length (k ∷ x ∷ xs) ≤ length (cond b (dedup_from eq_by k xs) (k ∷ dedup_from eq_by x xs)) → cond b (dedup_from eq_by k xs) (k ∷ dedup_from eq_by x xs) ≡ k ∷ x ∷ xs
      go true short rec h = absurd (omega arith)
      go false short rec h = ap (λ ys. k ∷ ys) (rec (omega arith))

  -- a list that ascends strictly repeats nothing
  member_less : (x : X) (t : List ℕ) (ys : List X) → AllByRecursion (λ y. cmp_by x y ≡ Less) ys → Contains (map f ys) t → slice_cmp nat_cmp (f x) t ≡ Less
  member_less x t [] h c = absurd (omega (arith, c.1))
  member_less x t (y ∷ ys) h c =
      elim (contains_cases (f y) t (map f ys) c) [
        | inl e ↦ subst (λ u. slice_cmp nat_cmp (f x) u ≡ Less) e h.0
        | inr d ↦ member_less x t ys h.1 d
      ]

  strict_apart : (xs : List X) → IsStrictlySortedBy cmp_by xs → Repeats (map f xs) → ⊥
  unfolding IsStrictlySortedBy
  strict_apart [] h r = r
  strict_apart (x ∷ xs) h r =
      elim r [
        | inl c ↦ not_less (slice_cmp nat_cmp (f x) (f x)) (tied_itself nat_list_cmp_total (f x)) (member_less x (f x) xs h.0 c)
        | inr later ↦ strict_apart xs h.1 later
      ]

  shorter_repeats : (ws : List X) → length (dedup eq_by ws) < length ws → Repeats (map f ws)
  shorter_repeats [] h = absurd (omega arith)
  shorter_repeats (w ∷ ws) h = dropped_repeats w ws h

  repeats_shorter : (ws : List X) → IsSorted cmp_by ws → Repeats (map f ws) → length (dedup eq_by ws) < length ws
  repeats_shorter [] s r = absurd r
  repeats_shorter (w ∷ ws) s r =
      elim (cases_lt (length (dedup eq_by (w ∷ ws))) (length (w ∷ ws))) [
        | inl lt ↦ lt
        | inr le ↦
            let strict = IsStrictlySortedBy-dedup (on_texts f) (λ x y. texts_ties (f x) (f y)) (w ∷ ws) s in
            absurd (strict_apart (w ∷ ws) (subst (IsStrictlySortedBy cmp_by) (kept_whole w ws le) strict) r)
      ]

  pub twice_is : (ts ws us : List X) → IsPermutation ts ws → IsSorted cmp_by ws → us ≡ dedup eq_by ws → (length us < length ts → Repeats (map f ts)) × (Repeats (map f ts) → length us < length ts)
  twice_is ts ws us moved sorted is =
      let long : length ws ≡ length ts = length_permutation ts ws moved in
      let texts = IsPermutation-map f ts ws moved in (
        λ h. repeats_moved (map f ws) (map f ts) (IsPermutation-sym (map f ts) (map f ws) texts) (shorter_repeats ws (omega (arith, h, ap length is, long))),
        λ r. omega (arith, repeats_shorter ws sorted (repeats_moved (map f ts) (map f ws) texts r), ap length is, long),
      )

-- a test tells what holds exactly where it is true
pub tells_from : (b : Bool) (P : Type 0) → (b ≡ true → P) → (P → b ≡ true) → Tells b P
tells_from true P to from = to refl
tells_from false P to from = λ p. let e = from p in cc
