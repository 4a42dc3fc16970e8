-- The values that a domain has.
use Rattle.std.proofs.Common.{◌≡◌, ℕ, zero, suc, ℤ, pos, negsuc, ◌+◌, ◌<◌, ◌+ℤ◌, ◌-ℤ◌, ◌<ℤ◌, ◌≤ℤ◌, ◌↔◌, List, [], ◌∷◌, length, get_or, Contains, refl, ap, ◌∙◌, arith, inl, inr}
use Rattle.std.proofs.lemmas.Int.{ints}
use Rattle.std.proofs.lemmas.List.Elements.{All-from_recursion}
use Rattle.palm_base.specs.Ascending.{Ascends}
use Rattle.palm_read.specs.Domain.{set_of, from_on, count_in}
use Rattle.palm_read.proofs.cited.Sets.{Rises, rises_set, set_member, member_set, contains_cases}

ascends_from : (xs : List ℤ) → Rises xs → Ascends xs
ascends_from [] r = tt
ascends_from (x ∷ xs) r = (All-from_recursion (λ y. x <ℤ y) xs r.0, ascends_from xs r.1)

pub set_ascends : (values : List ℤ) → Ascends (set_of values)
set_ascends values = ascends_from (set_of values) (rises_set values)

pub set_has : (values : List ℤ) (v : ℤ) → Contains (set_of values) v ↔ Contains values v
set_has values v = (set_member values v, member_set values v)

-- ---- LO..HI

length_from : (v : ℤ) (n : ℕ) → length (from_on v n) ≡ n
length_from v zero = refl
length_from v (suc n) = ap suc (length_from (v +ℤ pos 1) n)

from_to : (v : ℤ) (n : ℕ) (w : ℤ) → Contains (from_on v n) w → (v ≤ℤ w) × (w <ℤ (v +ℤ pos n))
from_to v zero w c = absurd (omega (arith, c.1))
from_to v (suc n) w c =
    elim (contains_cases v w (from_on (v +ℤ pos 1) n) c) [
      | inl e ↦ (omega (arith, ints, e), omega (arith, ints, e))
      | inr d ↦ let h = from_to (v +ℤ pos 1) n w d in (omega (arith, ints, h.0), omega (arith, ints, h.1))
    ]

get_from : (v : ℤ) (n k : ℕ) (d : ℤ) → k < n → get_or (from_on v n) k d ≡ v +ℤ pos k
get_from v zero k d l = absurd (omega arith)
get_from v (suc n) zero d l = omega (arith, ints)
get_from v (suc n) (suc k) d l =
    let step : (v +ℤ pos 1) +ℤ pos k ≡ v +ℤ pos (suc k) = omega (arith, ints) in
    get_from (v +ℤ pos 1) n k d (omega arith) ∙ step

to_from : (v : ℤ) (n : ℕ) (w : ℤ) → v ≤ℤ w → w <ℤ (v +ℤ pos n) → Contains (from_on v n) w
to_from v n w low high = by (w -ℤ v) refl
  where
    by : (z : ℤ) → w -ℤ v ≡ z → Contains (from_on v n) w
    by (pos k) e =
        let within : k < n = omega (arith, ints, e, high) in
        let is : v +ℤ pos k ≡ w = omega (arith, ints, e) in
        (k, omega (arith, within, length_from v n), get_from v n k w within ∙ is)
    by (negsuc k) e = absurd (omega (arith, ints, e, low))

count_is : (z : ℤ) → pos 0 ≤ℤ z → pos (count_in z) ≡ z
count_is (pos n) h = refl
count_is (negsuc n) h = absurd (omega (arith, ints, h))

pub range_has : (low high v : ℤ) → low ≤ℤ high → Contains (from_on low (count_in (high -ℤ low) + 1)) v ↔ ((low ≤ℤ v) × (v ≤ℤ high))
range_has low high v ordered =
    let n = count_in (high -ℤ low) in
    let far : pos n ≡ high -ℤ low = count_is (high -ℤ low) (omega (arith, ints, ordered)) in (
      λ c. let h = from_to low (n + 1) v c in (h.0, omega (arith, ints, h.1, far)),
      λ b. to_from low (n + 1) v b.0 (omega (arith, ints, b.1, far)),
    )
