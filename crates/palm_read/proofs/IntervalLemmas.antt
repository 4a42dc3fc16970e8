-- Ascending values are an interval where they are all whole numbers from the first to the last.
use Rattle.std.proofs.Common.{◌≡◌, ℕ, zero, suc, ℤ, pos, negsuc, ◌+◌, ◌<◌, ◌+ℤ◌, ◌-ℤ◌, ◌<ℤ◌, ◌≤ℤ◌, true, cond, ◌&&◌, List, [], ◌∷◌, Contains, inl, inr, refl, ap, ◌∙◌, arith}
use Rattle.std.proofs.lemmas.Bool.{false_from_ne_true}
use Rattle.std.proofs.lemmas.Bool.Decides.{Decides-int_eq}
use Rattle.std.proofs.lemmas.Int.{ints}
use Rattle.std.proofs.lemmas.List.Elements.{All-contains}
use Rattle.palm_read.proofs.cited.DomainsWith.{next_value}
use Rattle.palm_read.proofs.cited.Sets.{contains_cases, contains_there}
use Rattle.palm_read.specs.Interval.{HasAllBetween, is_interval, last_of, values_text}
use Rattle.palm_read.specs.Domain.{domain_text, range_text, set_text}
use Rattle.palm_base.specs.Ascending.{Ascends}
use Rattle.palm_read.specs.declared.line.DomainText.TheVariants.{Range, Set}

-- how far the greater of two numbers is from the other
above : (v w : ℤ) → v <ℤ w → (n : ℕ) × (0 < n) × (w ≡ v +ℤ pos n)
above v w h = by (w -ℤ v) refl
  where
    by : (z : ℤ) → w -ℤ v ≡ z → (n : ℕ) × (0 < n) × (w ≡ v +ℤ pos n)
    by (pos n) e = (n, omega (arith, ints), omega (arith, ints))
    by (negsuc n) e = absurd (omega (arith, ints))

-- how far the last value is from the first
record Spans (v : ℤ) (vs : List ℤ) : Type 0 where
  far : ℕ
  last : last_of v vs ≡ v +ℤ pos far

spans : (v : ℤ) (vs : List ℤ) → Ascends (v ∷ vs) → Spans v vs
spans v [] h = record { far = 0; last = omega (arith, ints) }
spans v (w ∷ ws) h =
    let rest = spans w ws h.1 in
    let step = above v w (h.0 0 w (omega arith)) in
    further v w ws rest step
  where
    further : (v w : ℤ) (ws : List ℤ) → Spans w ws → (n : ℕ) × (0 < n) × (w ≡ v +ℤ pos n) → Spans v (w ∷ ws)
    further v w ws rest step = record {
      far = step.0 + rest.far;
      last = let e = step.2 in let l = rest.last in omega (arith, ints);
    }

-- ---- the test tells them

head_least : (w z : ℤ) (ws : List ℤ) → Ascends (w ∷ ws) → Contains (w ∷ ws) z → w ≤ℤ z
head_least w z ws up c =
    elim (contains_cases w z ws c) [
      | inl e ↦ omega (arith, ints, e)
      | inr d ↦ let above = All-contains (λ (y : ℤ). w <ℤ y) ws z up.0 d in omega (arith, ints, above)
    ]

next_is : (v w : ℤ) (ws : List ℤ) → Ascends (w ∷ ws) → v <ℤ w → Contains (v ∷ w ∷ ws) (v +ℤ pos 1) → w ≡ v +ℤ pos 1
next_is v w ws up step c =
    elim (contains_cases v (v +ℤ pos 1) (w ∷ ws) c) [
      | inl e ↦ absurd (omega (arith, ints, e))
      | inr d ↦ let least = head_least w (v +ℤ pos 1) ws up d in omega (arith, ints, least, step)
    ]

rest_between : (v w : ℤ) (ws : List ℤ) → v <ℤ w → HasAllBetween v (w ∷ ws) → HasAllBetween w ws
rest_between v w ws step all z low high =
    elim (contains_cases v z (w ∷ ws) (all z (omega (arith, ints, step, low)) high)) [
      | inl e ↦ absurd (omega (arith, ints, e, step, low))
      | inr c ↦ c
    ]

pub all_tested : (v : ℤ) (vs : List ℤ) → Ascends (v ∷ vs) → HasAllBetween v vs → is_interval (v ∷ vs) ≡ true
all_tested v [] up all = refl
all_tested v (w ∷ ws) up all =
    let step : v <ℤ w = up.0 0 w (omega arith) in
    let s = spans w ws up.1 in
    let reach : (v +ℤ pos 1) ≤ℤ last_of w ws = let l = s.last in omega (arith, ints, step, l) in
    let next = next_is v w ws up.1 step (all (v +ℤ pos 1) (omega (arith, ints)) reach) in
    ap (λ b. b && is_interval (w ∷ ws)) ((Decides-int_eq w (v +ℤ pos 1)).1 next) ∙ all_tested w ws up.1 (rest_between v w ws step all)

-- a number from the first on is the first, or from the next one on
beside : (v w : ℤ) (ws : List ℤ) (z : ℤ) → w ≡ v +ℤ pos 1 → v ≤ℤ z → (w ≤ℤ z → Contains (w ∷ ws) z) → (far : ℤ) → z -ℤ v ≡ far → Contains (v ∷ w ∷ ws) z
beside v w ws z next low rest (pos zero) e = let is : v ≡ z = omega (arith, ints, e) in (0, omega arith, is)
beside v w ws z next low rest (pos (suc k)) e = contains_there v z (w ∷ ws) (rest (omega (arith, ints, e, next)))
beside v w ws z next low rest (negsuc k) e = absurd (omega (arith, ints, e, low))

pub tested_all : (v : ℤ) (vs : List ℤ) → is_interval (v ∷ vs) ≡ true → HasAllBetween v vs
tested_all v [] t z low high = let is : v ≡ z = omega (arith, ints, low, high) in (0, omega arith, is)
tested_all v (w ∷ ws) t z low high =
    let tests = next_value v w ws t in
    beside v w ws z tests.0 low (λ above. tested_all w ws tests.1 z above high) (z -ℤ v) refl

pub printed_interval : (v : ℤ) (vs : List ℤ) → Ascends (v ∷ vs) → HasAllBetween v vs → values_text (v ∷ vs) ≡ range_text v (last_of v vs)
printed_interval v vs up all = ap (λ b. domain_text (cond b (Range v (last_of v vs)) (Set (v ∷ vs)))) (all_tested v vs up all)

pub printed_set : (v : ℤ) (vs : List ℤ) → Ascends (v ∷ vs) → (HasAllBetween v vs → ⊥) → values_text (v ∷ vs) ≡ set_text (v ∷ vs)
printed_set v vs up gap =
    ap (λ b. domain_text (cond b (Range v (last_of v vs)) (Set (v ∷ vs)))) (false_from_ne_true (is_interval (v ∷ vs)) (λ q. gap (tested_all v vs q)))
