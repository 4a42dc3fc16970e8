use Rattle.std.proofs.Common.{pos, ◌+ℤ◌, ◌-ℤ◌, w32, to_z, of_z, FitsSigned, ap, ◌∙◌, arith}
use Rattle.std.proofs.lemmas.Int.{ints, to_z-of_z}
use Rattle.filter_compare.proofs.Rules.{lower_rule, higher_rule}
use Rattle.filter_compare.proofs.Shapes.{left_offset}
use Rattle.filter_compare.proofs.rule.rule_of.Goals as goal

pub returns-in-Lt : goal.returns-in-Lt
returns-in-Lt c initial con intervals x v =
    let above = c.requires.above in
    let below = c.requires.below in
    let fits : FitsSigned w32 (c.args.by -ℤ pos 1) = omega (arith, ints, above, below) in
    rw c.in-Lt.is
    (lower_rule initial c.args.var v c.args.by _ (ap (λ n. to_z w32 (of_z w32 (n -ℤ pos 1))) (left_offset c.args.by c.requires) ∙ to_z-of_z w32 (c.args.by -ℤ pos 1) fits))

pub returns-in-Gt : goal.returns-in-Gt
returns-in-Gt c initial con intervals x v =
    let above = c.requires.above in
    let below = c.requires.below in
    let fits : FitsSigned w32 (c.args.by +ℤ pos 1) = omega (arith, ints, above, below) in
    rw c.in-Gt.is
    (higher_rule initial c.args.var v c.args.by _ (ap (λ n. to_z w32 (of_z w32 (n +ℤ pos 1))) (left_offset c.args.by c.requires) ∙ to_z-of_z w32 (c.args.by +ℤ pos 1) fits))
