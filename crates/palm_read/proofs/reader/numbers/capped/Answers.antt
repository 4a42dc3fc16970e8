use Rattle.std.proofs.Common.{arith}
use Rattle.palm_base.proofs.cited.Numerals.{digits_too_large}
use Rattle.palm_read.proofs.reader.numbers.capped.Goals as goal

pub returns-in-None : goal.returns-in-None
returns-in-None c =
    omega (arith, digits_too_large c.args.digits.now c.requires.digits c.in-None.ensures.none)
