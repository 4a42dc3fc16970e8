use Rattle.std.proofs.Common.{◌≡◌, ◌+◌, ◌-◌, ◌*◌, ◌%◌, ◌^◌, ◌<◌, ◌≤◌, ℕ, sym, ap, ◌∙◌, arith, bit_and, pow_pos}
use Rattle.std.specs.Int.{bit_at}
use Rattle.std.proofs.lemmas.Nat.{and_mask, mod_below}
use Rattle.std.proofs.lemmas.Nat.Bits.{bit_at-zero}
use Rattle.palm_domain.proofs.WordOnes.{bit_at-mod, bit_at_top, zeros_above_top, exponent_below}
use Rattle.palm_domain.proofs.bits.ones_end.Goals as goal

-- what is left of the word below a place
module _ (word before ones : ℕ) (mask : ones ≡ 2 ^ before - 1) where
  low_is : bit_and word ones ≡ word % 2 ^ before
  low_is = ap (bit_and word) mask ∙ and_mask word before

  bit_of_low : (k : ℕ) → k < before → bit_at (bit_and word ones) k ≡ bit_at word k
  bit_of_low k l = ap (λ x. bit_at x k) low_is ∙ bit_at-mod word before k l

  none : bit_and word ones ≡ 0 → (k : ℕ) → k < before → bit_at word k ≡ 0
  none e k l = sym (bit_of_low k l) ∙ ap (λ x. bit_at x k) e ∙ bit_at-zero k

  top_below : (top : ℕ) → 2 ^ top ≤ bit_and word ones → top < before
  top_below top low = exponent_below (bit_and word ones) top before low (omega (arith, low_is, mod_below word (2 ^ before) (pow_pos before)))

  top_one : (top : ℕ) → 2 ^ top ≤ bit_and word ones → bit_and word ones < 2 * 2 ^ top → bit_at word top ≡ 1
  top_one top low high = sym (bit_of_low top (top_below top low)) ∙ bit_at_top (bit_and word ones) top low high

  above_top : (top k : ℕ) → bit_and word ones < 2 * 2 ^ top → top < k → k < before → bit_at word k ≡ 0
  above_top top k high l m = sym (bit_of_low k m) ∙ zeros_above_top (bit_and word ones) top k high l

pub returns-then-low-eq0-clause-zeros : goal.returns-then-low-eq0-clause-zeros
returns-then-low-eq0-clause-zeros c k _ l = none c.args.word c.args.before c.low_ones.result c.low_ones.ensures c.if-low-eq0.true k l

pub returns-else-low-eq0-clause-within : goal.returns-else-low-eq0-clause-within
returns-else-low-eq0-clause-within c =
    omega (arith, top_below c.args.word c.args.before c.low_ones.result c.low_ones.ensures c.ilog2.result c.ilog2.ensures.power_le)

pub returns-else-low-eq0-clause-one : goal.returns-else-low-eq0-clause-one
returns-else-low-eq0-clause-one c _ =
    let there : c.ilog2.result + 1 - 1 ≡ c.ilog2.result = omega arith in
    ap (bit_at c.args.word) there ∙ top_one c.args.word c.args.before c.low_ones.result c.low_ones.ensures c.ilog2.result c.ilog2.ensures.power_le c.ilog2.ensures.next_power_gt

pub returns-else-low-eq0-clause-zeros : goal.returns-else-low-eq0-clause-zeros
returns-else-low-eq0-clause-zeros c k l m =
    above_top c.args.word c.args.before c.low_ones.result c.low_ones.ensures c.ilog2.result k c.ilog2.ensures.next_power_gt (omega arith) m
