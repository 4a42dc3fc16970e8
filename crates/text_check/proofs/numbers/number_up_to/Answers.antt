use Rattle.std.proofs.Common.{◌≤◌, arith}
use Rattle.std.proofs.lemmas.Bool.{and_parts, false_from_ne_true, leb-true}
use Rattle.std.specs.Prelude.{nat_le}
use Rattle.palm_base.proofs.cited.Numerals.{digits_too_large}
use Rattle.palm_base.specs.Numbers.{digits_number}
use Rattle.palm_claim.specs.Reader.{is_number}
use Rattle.text_check.proofs.numbers.number_up_to.Goals as goal

pub returns-in_err-number-clause-none : goal.returns-in_err-number-clause-none
returns-in_err-number-clause-none c =
    let n = digits_number c.args.digits.now in
    rw c.from_residual.ensures (false_from_ne_true (is_number c.args.most n) (λ e.
    let most : n ≤ c.args.most = leb-true n c.args.most (and_parts (nat_le 1 n) (nat_le n c.args.most) e).1 in
    absurd (omega (arith, most, digits_too_large c.args.digits.now c.requires c.in_err-number.ensures.none))))
