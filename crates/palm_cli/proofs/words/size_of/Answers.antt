use Rattle.std.proofs.Common.{◌≤◌, ◌^◌, arith}
use Rattle.palm_base.proofs.cited.Numerals.{digits_too_large}
use Rattle.palm_base.specs.Numbers.{digits_number}
use Rattle.palm_cli.proofs.WordLemmas.{if_none}
use Rattle.palm_cli.proofs.words.size_of.Goals as goal

pub returns-in_err-read_int-clause-none : goal.returns-in_err-read_int-clause-none
returns-in_err-read_int-clause-none c =
    if_none _ c.from_residual.result (λ size is.
    let large : 2 ^ 127 ≤ digits_number c.args.digits.now = digits_too_large c.args.digits.now is.digits c.in_err-read_int.ensures.none in
    absurd (omega (arith, large, is.number, is.few)))
