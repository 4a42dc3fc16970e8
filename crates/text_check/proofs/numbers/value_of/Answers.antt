use Rattle.std.proofs.Common.{◌≤◌, arith}
use Rattle.std.proofs.lemmas.Bool.{false_from_ne_true}
use Rattle.palm_base.proofs.cited.Numerals.{digits_too_large}
use Rattle.palm_base.specs.Numbers.{digits_number}
use Rattle.palm_claim.specs.Reader.{is_value}
use Rattle.palm_read.specs.Linear.{signed}
use Rattle.text_check.proofs.Reading.{signed_small}
use Rattle.text_check.proofs.numbers.value_of.Goals as goal

pub returns-in_err-number-clause-none : goal.returns-in_err-number-clause-none
returns-in_err-number-clause-none c =
    let n = digits_number c.args.digits.now in
    rw c.from_residual.ensures (false_from_ne_true (is_value (signed c.args.is_negative n)) (λ e.
    let most : n ≤ 1000000 = signed_small c.args.is_negative n e in
    absurd (omega (arith, most, digits_too_large c.args.digits.now c.requires c.in_err-number.ensures.none))))
