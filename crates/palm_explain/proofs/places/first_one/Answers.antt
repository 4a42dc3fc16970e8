use Rattle.std.proofs.Common.{◌≡◌, ◌+◌, ◌-◌, ◌/◌, ◌^◌, ◌<◌, ◌≤◌, ℕ, sym, ap, ◌∙◌, arith, w64, ⊎_elim}
use Rattle.std.specs.Int.{bit_at, trailing_zeros}
use Rattle.std.proofs.lemmas.Bool.{cases_lt}
use Rattle.std.proofs.lemmas.Nat.{shr_le}
use Rattle.std.proofs.lemmas.Nat.Bits.{bit_at-trailing_zeros, bit_at-zero, bit_at_above}
use Rattle.palm_explain.specs.Places.{IsFirstOne}
use Rattle.palm_explain.proofs.PlaceSets.{bit_at_shr}
use Rattle.palm_explain.proofs.places.first_one.Goals as goal

behind : (bits from k : ℕ) → from ≤ k → bit_at bits k ≡ bit_at (bits / 2 ^ from) (k - from)
behind bits from k le = let there : k ≡ from + (k - from) = omega arith in ap (bit_at bits) there ∙ sym (bit_at_shr bits from (k - from))

pub returns-then-rest-eq0-clause-none : goal.returns-then-rest-eq0-clause-none
returns-then-rest-eq0-clause-none c k le = behind c.args.bits c.args.from k le ∙ ap (λ n. bit_at n (k - c.args.from)) c.if-rest-eq0.true ∙ bit_at-zero (k - c.args.from)

first : (bits from : ℕ) → bits < 2 ^ 64 → (bits / 2 ^ from ≡ 0 → ⊥) → IsFirstOne bits from (from + trailing_zeros w64 (bits / 2 ^ from))
first bits from fits some =
    let low = bit_at-trailing_zeros w64 (bits / 2 ^ from) (omega arith) (omega (arith, shr_le bits from)) in
    let t = trailing_zeros w64 (bits / 2 ^ from) in
    let one : bit_at bits (from + t) ≡ 1 = sym (bit_at_shr bits from t) ∙ low.1 in record {
      small = ⊎_elim (λ l. l) (λ ge. absurd (omega (arith, one, bit_at_above bits 64 (from + t) fits ge))) (cases_lt (from + t) 64);
      behind = omega arith;
      is = one;
      zeros = λ k le lt. behind bits from k le ∙ low.2 (k - from) (omega (arith, le, lt));
    }

pub returns-clause-some : goal.returns-clause-some
returns-clause-some c = first c.args.bits c.args.from c.ranges.bits.fits c.if-rest-eq0.false
