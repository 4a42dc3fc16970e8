use Rattle.std.proofs.Common.{◌∙◌, ◌-◌, ◌^◌, ap, arith, bit_and}
use Rattle.std.specs.Int.{bit_at}
use Rattle.std.proofs.lemmas.Nat.{one_shl}
use Rattle.std.proofs.lemmas.Nat.Bits.{bit_at_above, bit_at_and, bit_at_ones, bit_at_ones_above, bit_at-lt}
use Rattle.palm_explain.proofs.places.low_bits.Goals as goal

pub returns-then-count-lt64-clause-below : goal.returns-then-count-lt64-clause-below
returns-then-count-lt64-clause-below c k l =
    ap (λ m. bit_at (bit_and c.args.bits (m - 1)) k) (one_shl c.args.count 64 c.if-count-lt64.true)
    ∙ omega (arith, bit_at_and c.args.bits (2 ^ c.args.count - 1) k, bit_at_ones c.args.count k l, bit_at-lt c.args.bits k)

pub returns-then-count-lt64-clause-above : goal.returns-then-count-lt64-clause-above
returns-then-count-lt64-clause-above c k ge =
    ap (λ m. bit_at (bit_and c.args.bits (m - 1)) k) (one_shl c.args.count 64 c.if-count-lt64.true)
    ∙ omega (arith, bit_at_and c.args.bits (2 ^ c.args.count - 1) k, bit_at_ones_above c.args.count k ge)

pub returns-else-count-lt64-clause-above : goal.returns-else-count-lt64-clause-above
returns-else-count-lt64-clause-above c k ge = bit_at_above c.args.bits 64 k c.ranges.bits.fits (omega (arith, ge, c.if-count-lt64.false))
