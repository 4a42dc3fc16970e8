-- The values of domains: those from one on, and that those of a sound domain that is not large are values of a variable.
use Rattle.std.proofs.Common.{◌≡◌, ℕ, zero, suc, ℤ, pos, negsuc, ◌+◌, ◌<◌, ◌≤◌, ◌+ℤ◌, ◌-ℤ◌, ◌<ℤ◌, ◌≤ℤ◌, List, [], ◌∷◌, ◌++◌, All, length, refl, ap, ◌∙◌, sym, subst, arith, add-one, inl, inr}
use Rattle.std.proofs.lemmas.Bool.{cases_lt}
use Rattle.std.proofs.lemmas.Int.{ints}
use Rattle.std.proofs.lemmas.List.Elements.{All-nil, All-cons, All-weaker}
use Rattle.palm_model.specs.Limits.{IsValue}
use Rattle.palm_model.specs.Domains.{Ascends}
use Rattle.palm_book.specs.Book.{AreValues}
use Rattle.palm_read.specs.Domain.{IsLarge, IsSoundDomain, count_in, from_on, values_in}
use Rattle.palm_read.specs.declared.line.DomainText.{DomainText}
use Rattle.palm_read.specs.declared.line.DomainText.TheVariants.{Range, Set}

later : (v : ℤ) (n : ℕ) → (v +ℤ pos 1) +ℤ pos n ≡ v +ℤ pos (suc n)
later v n = omega (arith, ints)

from_on_suc : (v : ℤ) (n : ℕ) → from_on v (suc n) ≡ from_on v n ++ (v +ℤ pos n) ∷ []
from_on_suc v zero = ap (λ (z : ℤ). z ∷ []) (omega (arith, ints))
from_on_suc v (suc n) =
    ap (λ (z : List ℤ). v ∷ z) (from_on_suc (v +ℤ pos 1) n ∙ ap (λ (z : ℤ). from_on (v +ℤ pos 1) n ++ z ∷ []) (later v n))

-- one more value
from_on_more : (v : ℤ) (n : ℕ) → from_on v (n + 1) ≡ from_on v n ++ (v +ℤ pos n) ∷ []
from_on_more v n = rw add-one (from_on_suc v n)

length-from_on : (v : ℤ) (n : ℕ) → length (from_on v n) ≡ n
length-from_on v zero = refl
length-from_on v (suc n) = ap suc (length-from_on (v +ℤ pos 1) n)

-- a number that is not negative is counted as it is
pub count_is : (z : ℤ) → pos 0 ≤ℤ z → pos (count_in z) ≡ z
count_is (pos n) h = refl
count_is (negsuc n) h = absurd (omega (arith, ints, h))

pub count_none : (z : ℤ) → z ≤ℤ pos 0 → count_in z ≡ 0
count_none (pos n) h = omega (arith, ints, h)
count_none (negsuc n) h = refl

-- the values from the lowest to the next one
pub interval_more : (low value : ℤ) → low ≤ℤ value → from_on low (count_in ((value +ℤ pos 1) -ℤ low) + 1) ≡ from_on low (count_in (value -ℤ low) + 1) ++ (value +ℤ pos 1) ∷ []
interval_more low value above =
    let n : ℕ = count_in (value -ℤ low) in
    let here : pos n ≡ value -ℤ low = count_is (value -ℤ low) (omega (arith, ints, above)) in
    let next : pos (count_in ((value +ℤ pos 1) -ℤ low)) ≡ (value +ℤ pos 1) -ℤ low = count_is ((value +ℤ pos 1) -ℤ low) (omega (arith, ints, above)) in
    let far : count_in ((value +ℤ pos 1) -ℤ low) ≡ n + 1 = omega (arith, ints, here, next) in
    let last : low +ℤ pos (n + 1) ≡ value +ℤ pos 1 = omega (arith, ints, here) in
    ap (λ (m : ℕ). from_on low (m + 1)) far ∙ from_on_more low (n + 1) ∙ ap (λ (z : ℤ). from_on low (n + 1) ++ z ∷ []) last

-- the values are from the first one on, and below the one behind the last
bounds : (v : ℤ) (n : ℕ) → All (λ w. (v ≤ℤ w) × (w <ℤ (v +ℤ pos n))) (from_on v n)
bounds v zero = All-nil (λ w. (v ≤ℤ w) × (w <ℤ (v +ℤ pos zero)))
bounds v (suc n) =
    All-cons (λ w. (v ≤ℤ w) × (w <ℤ (v +ℤ pos (suc n)))) v (from_on (v +ℤ pos 1) n) (omega (arith, ints), omega (arith, ints))
    (All-weaker (λ w. ((v +ℤ pos 1) ≤ℤ w) × (w <ℤ ((v +ℤ pos 1) +ℤ pos n))) (λ w. (v ≤ℤ w) × (w <ℤ (v +ℤ pos (suc n))))
    (λ w b. (omega (arith, ints, b.0), omega (arith, ints, b.1))) (from_on (v +ℤ pos 1) n) (bounds (v +ℤ pos 1) n))

ascends : (v : ℤ) (n : ℕ) → Ascends (from_on v n)
ascends v zero = tt
ascends v (suc n) = (
  All-weaker (λ w. ((v +ℤ pos 1) ≤ℤ w) × (w <ℤ ((v +ℤ pos 1) +ℤ pos n))) (λ w. v <ℤ w)
      (λ w b. omega (arith, ints, b.0)) (from_on (v +ℤ pos 1) n) (bounds (v +ℤ pos 1) n),
  ascends (v +ℤ pos 1) n,
)

-- they are values of the language where the first and the last are
are_values : (v : ℤ) (n : ℕ) → 0 < n → n ≤ 256 → IsValue v → IsValue (v +ℤ pos n -ℤ pos 1) → AreValues (from_on v n)
are_values v n some few low high = record {
  some = omega (arith, length-from_on v n);
  few = omega (arith, length-from_on v n);
  ascend = ascends v n;
  each = All-weaker (λ w. (v ≤ℤ w) × (w <ℤ (v +ℤ pos n))) IsValue
      (λ w b. record { above = omega (arith, ints, low.above, b.0); below = omega (arith, ints, high.below, b.1) })
      (from_on v n) (bounds v n);
}

-- an interval that is not large has at most 256 values
narrow : (low high : ℤ) (n : ℕ) → low +ℤ pos n -ℤ pos 1 ≡ high → ((pos 256 ≤ℤ (high -ℤ low)) → ⊥) → n ≤ 256
narrow low high n last small =
    elim (cases_lt 256 n) [ inl wide ↦ absurd (small (omega (arith, ints, last, wide))) | inr few ↦ few ]

-- the values of a sound domain that is not large are values of a variable
pub domain_values : (domain : DomainText) → IsSoundDomain domain → (IsLarge domain → ⊥) → AreValues (values_in domain)
domain_values (Range low high) sound small =
    let n : ℕ = count_in (high -ℤ low) + 1 in
    let far : pos (count_in (high -ℤ low)) ≡ high -ℤ low = count_is (high -ℤ low) (omega (arith, ints, sound.2)) in
    let last : low +ℤ pos n -ℤ pos 1 ≡ high = omega (arith, ints, far) in
    are_values low n (omega arith) (narrow low high n last small) sound.0 (subst IsValue (sym last) sound.1)
domain_values (Set values) sound small = record {
  some = sound.0;
  few = omega (arith, small);
  ascend = sound.1;
  each = sound.2;
}
