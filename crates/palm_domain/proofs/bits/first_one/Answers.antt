use Rattle.std.proofs.Common.{◌≡◌, ◌+◌, ◌-◌, ◌/◌, ◌^◌, ◌<◌, ◌≤◌, ℕ, sym, ap, ◌∙◌, arith, w64, ⊎_elim}
use Rattle.std.specs.Int.{bit_at, trailing_zeros}
use Rattle.std.proofs.lemmas.Bool.{cases_lt}
use Rattle.std.proofs.lemmas.Nat.{shr_le}
use Rattle.std.proofs.lemmas.Nat.Bits.{bit_at-trailing_zeros, bit_at_above}
use Rattle.palm_domain.proofs.WordOnes.{bit_at-shr, zeros_from_shr}
use Rattle.palm_domain.proofs.bits.first_one.Goals as goal

pub returns-then-rest-eq0-clause-none : goal.returns-then-rest-eq0-clause-none
returns-then-rest-eq0-clause-none c k low _ = zeros_from_shr c.args.word c.args.from k c.if-rest-eq0.true low

-- the first one of the rest, as a place of the word
found : (word from : ℕ) → word < 2 ^ 64 → (word / 2 ^ from ≡ 0 → ⊥) → (from + trailing_zeros w64 (word / 2 ^ from) < 64) × (bit_at word (from + trailing_zeros w64 (word / 2 ^ from)) ≡ 1) × ((k : ℕ) → from ≤ k → k < from + trailing_zeros w64 (word / 2 ^ from) → bit_at word k ≡ 0)
found word from fits some =
    let first = bit_at-trailing_zeros w64 (word / 2 ^ from) (omega arith) (omega (arith, shr_le word from)) in
    let t = trailing_zeros w64 (word / 2 ^ from) in
    let one : bit_at word (from + t) ≡ 1 = sym (bit_at-shr word from t) ∙ first.1 in (
      ⊎_elim (λ l. l) (λ ge. absurd (omega (arith, bit_at_above word 64 (from + t) fits ge))) (cases_lt (from + t) 64),
      one,
      λ k low high.
          let there : from + (k - from) ≡ k = omega arith in
          ap (bit_at word) (sym there) ∙ sym (bit_at-shr word from (k - from)) ∙ first.2 (k - from) (omega arith),
    )

pub returns-else-rest-eq0-clause-within : goal.returns-else-rest-eq0-clause-within
returns-else-rest-eq0-clause-within c =
    let f = found c.args.word c.args.from c.ranges.word.fits c.if-rest-eq0.false in omega (arith, f.0)

pub returns-else-rest-eq0-clause-one : goal.returns-else-rest-eq0-clause-one
returns-else-rest-eq0-clause-one c = (found c.args.word c.args.from c.ranges.word.fits c.if-rest-eq0.false).1

pub returns-else-rest-eq0-clause-before : goal.returns-else-rest-eq0-clause-before
returns-else-rest-eq0-clause-before c = (found c.args.word c.args.from c.ranges.word.fits c.if-rest-eq0.false).2
