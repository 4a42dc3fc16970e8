-- The bits of a word: shifted down, and cut off at a place.
use Rattle.std.proofs.Common.{◌≡◌, ℕ, suc, ◌+◌, ◌-◌, ◌*◌, ◌/◌, ◌%◌, ◌^◌, ◌<◌, ◌≤◌, sym, ap, ◌∙◌, arith, shr-shr, pow_pos, pow_mono, div-lt_iff_lt-mul, le-div_iff_mul-le, ⊎_elim}
use Rattle.std.specs.Int.{bit_at}
use Rattle.std.proofs.lemmas.Bool.{cases_lt}
use Rattle.std.proofs.lemmas.Nat.{shr_split}
use Rattle.std.proofs.lemmas.Nat.Bits.{bit_at-zero, bit_at_above, bit_at_cat_low, ones_shr}
use Rattle.std.proofs.Math.Nat.{two-pow-succ}

pub bit_at-shr : (n i k : ℕ) → bit_at (n / 2 ^ i) k ≡ bit_at n (i + k)
bit_at-shr n i k = ap (λ x. x % 2) (shr-shr n i k)

-- where the bits from i on make 0, each of them is 0
pub zeros_from_shr : (n i k : ℕ) → n / 2 ^ i ≡ 0 → i ≤ k → bit_at n k ≡ 0
zeros_from_shr n i k none l =
    let there : i + (k - i) ≡ k = omega arith in
    ap (bit_at n) (sym there) ∙ sym (bit_at-shr n i (k - i)) ∙ ap (λ x. bit_at x (k - i)) none ∙ bit_at-zero (k - i)

-- the bits below a place
pub bit_at-mod : (n m k : ℕ) → k < m → bit_at (n % 2 ^ m) k ≡ bit_at n k
bit_at-mod n m k l = sym (bit_at_cat_low (n / 2 ^ m) m (n % 2 ^ m) k l) ∙ ap (λ x. bit_at x k) (shr_split n m)

-- the highest one, and the zeros above it
pub bit_at_top : (n k : ℕ) → 2 ^ k ≤ n → n < 2 * 2 ^ k → bit_at n k ≡ 1
bit_at_top n k low high =
    let p = pow_pos k in
    let a : n / 2 ^ k < 2 = (div-lt_iff_lt-mul p).1 high in
    let b : 1 ≤ n / 2 ^ k = (le-div_iff_mul-le p).1 (omega arith) in
    omega arith

pub zeros_above_top : (n k j : ℕ) → n < 2 * 2 ^ k → k < j → bit_at n j ≡ 0
zeros_above_top n k j high l = bit_at_above n (suc k) j (omega (arith, two-pow-succ k)) l

-- a power that is not above a number below another power has the lower exponent
pub exponent_below : (n k m : ℕ) → 2 ^ k ≤ n → n < 2 ^ m → k < m
exponent_below n k m low high =
    ⊎_elim (λ l. l) (λ ge. absurd (omega (arith, pow_mono {i = m} {j = k} ge))) (cases_lt k m)

-- the word with ones at the first places
pub low_ones_is : (count : ℕ) → count ≤ 64 → (2 ^ 64 - 1) / 2 ^ (64 - count) ≡ 2 ^ count - 1
low_ones_is count l =
    let e : 64 - (64 - count) ≡ count = omega arith in
    ones_shr 64 (64 - count) (omega arith) ∙ ap (λ x. 2 ^ x - 1) e
