use Rattle.std.proofs.Common.{arith}
use Rattle.std.proofs.lemmas.Int.{ints}
use Rattle.palm_base.proofs.cited.Telling.{tells_both}
use Rattle.filter_occur.proofs.Reached.{op_equal_reached, op_equal_missed}
use Rattle.filter_occur.proofs.counts.Counts.fits.Goals as goal

pub returns-then-low-number : goal.returns-then-low-number
returns-then-low-number c =
    tells_both _ _
    (λ t. op_equal_reached c.args.self.now c.args.op c.args.value.now c.in-Eq.is (grind (arith, ints)) (grind (arith, ints)))
    (λ t. op_equal_missed c.args.self.now c.args.op c.args.value.now c.in-Eq.is (grind (arith, ints)))
