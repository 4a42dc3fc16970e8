-- Numbers that stand one after another in an ascending list.
use Rattle.std.proofs.Common.{◌≡◌, ℕ, zero, suc, ℤ, pos, negsuc, ◌+ℤ◌, ◌+◌, ◌-◌, ◌<◌, ◌≤◌, ◌<ℤ◌, ◌≤ℤ◌, List, length, Contains, get_or, slice_get, Some, sym, ap, ◌∙◌, arith}
use Rattle.std.specs.Int.{int_gap}
use Rattle.std.proofs.lemmas.Int.{ints}
use Rattle.std.proofs.lemmas.Option.{get_or_from_slice_get, slice_get-get_or}
use Rattle.palm_domain.specs.Rows.{Ascends, HasRun, IsGapless}
use Rattle.palm_domain.proofs.cited.Ascending.{get_or-ascends, get_or-rises, int_gap_reaches}

-- each step from a place takes at least one
steps_from : (xs : List ℤ) → Ascends xs → (i n : ℕ) (d e : ℤ) → i + n < length xs → (get_or xs i d +ℤ pos n) ≤ℤ get_or xs (i + n) e
steps_from xs a i zero d e l = omega (arith, ints, get_or-rises xs a i (i + 0) d e (omega arith) l)
steps_from xs a i (suc n) d e l =
    omega (arith, ints, steps_from xs a i n d e (omega arith), get_or-ascends xs a (i + n) (i + suc n) e e (omega arith) l)

-- a number that is not as far up is within the gap
gap_within : (low high : ℤ) (k : ℕ) → high ≤ℤ (low +ℤ pos k) → int_gap low high ≤ k
gap_within (pos a) (pos b) k h = omega (arith, ints, h)
gap_within (pos a) (negsuc b) k h = omega (arith, ints, h)
gap_within (negsuc a) (pos b) k h = omega (arith, ints, h)
gap_within (negsuc a) (negsuc b) k h = omega (arith, ints, h)

-- a number that is not below is the gap up
gap_from : (low high : ℤ) → low ≤ℤ high → high ≡ low +ℤ pos (int_gap low high)
gap_from (pos a) (pos b) l = omega (arith, ints, l)
gap_from (pos a) (negsuc b) l = omega (arith, ints, l)
gap_from (negsuc a) (pos b) l = omega (arith, ints, l)
gap_from (negsuc a) (negsuc b) l = omega (arith, ints, l)

gap_up : (low : ℤ) (n : ℕ) → int_gap low (low +ℤ pos n) ≡ n
gap_up low n =
    omega (arith, ints, int_gap_reaches low (low +ℤ pos n) (int_gap low (low +ℤ pos n)) (omega arith), gap_within low (low +ℤ pos n) n (omega (arith, ints)))

module _ (xs : List ℤ) (a : Ascends xs) (some : 0 < length xs) (low high : ℤ) (is_low : low ≡ get_or xs 0 low) (is_high : high ≡ get_or xs (length xs - 1) high) where
  -- where the last value is as far up as its place, so is each before it
  pub gap_runs : int_gap low high ≡ length xs - 1 → (k : ℕ) → k < length xs → slice_get xs k ≡ Some (low +ℤ pos k)
  gap_runs gap k l =
      let reach = int_gap_reaches low high (length xs - 1) (omega (arith, gap)) in
      let up = steps_from xs a 0 k low low (omega (arith, l)) in
      let here : 0 + k ≡ k = omega arith in
      let on : k + (length xs - 1 - k) ≡ length xs - 1 = omega arith in
      let rest = steps_from xs a k (length xs - 1 - k) low high (omega arith) in
      let top : get_or xs (k + (length xs - 1 - k)) high ≡ high = ap (λ n. get_or xs n high) on ∙ sym is_high in
      let same : get_or xs k low ≡ low +ℤ pos k = omega (arith, ints, up, ap (λ n. get_or xs n low) here, rest, top, reach, is_low) in
      slice_get-get_or xs k low l ∙ ap Some same

  -- a run goes up as far as it is long
  pub run_gap : IsGapless xs → int_gap low high ≡ length xs - 1
  run_gap g =
      let first = get_or_from_slice_get xs 0 (g.0 +ℤ pos 0) low (g.1 0 some) in
      let last = get_or_from_slice_get xs (length xs - 1) (g.0 +ℤ pos (length xs - 1)) high (g.1 (length xs - 1) (omega arith)) in
      let top : high ≡ low +ℤ pos (length xs - 1) = omega (arith, ints, is_low, is_high, first, last) in
      ap (int_gap low) top ∙ gap_up low (length xs - 1)

module _ (xs : List ℤ) (a : Ascends xs) (some : 0 < length xs) (low : ℤ) (is_low : low ≡ get_or xs 0 low) where
  -- the place of a number is how far it is up
  pub run_here : IsGapless xs → (first : ℤ) (place : ℕ) → low ≤ℤ first → place ≡ int_gap low first → place < length xs → HasRun xs first place
  run_here g first place from is l =
      let start = get_or_from_slice_get xs 0 (g.0 +ℤ pos 0) low (g.1 0 some) in
      let here : first ≡ low +ℤ pos place = omega (arith, ints, gap_from low first from, is) in
      record {
        within = l;
        each = λ k m. g.1 (place + k) m ∙ ap Some (omega (arith, ints, start, is_low, here));
      }

  pub not_here : IsGapless xs → (first : ℤ) (place : ℕ) → place ≡ int_gap low first → length xs ≤ place → Contains xs first → ⊥
  not_here g first place is far h =
      let start = get_or_from_slice_get xs 0 (g.0 +ℤ pos 0) low (g.1 0 some) in
      let here = get_or_from_slice_get xs h.0 (g.0 +ℤ pos h.0) first (g.1 h.0 h.1) in
      absurd (omega (arith, ints, gap_within low first h.0 (omega (arith, ints, start, is_low, here, h.2)), is, h.1))

  pub not_below : (first : ℤ) → first <ℤ low → Contains xs first → ⊥
  not_below first below h = absurd (omega (arith, ints, get_or-rises xs a 0 h.0 low first (omega arith) h.1, h.2, is_low))
