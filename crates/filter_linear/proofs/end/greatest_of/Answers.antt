use Rattle.std.proofs.Common.{sym, subst}
use Rattle.palm_domain.specs.Rows.{present_of}
use Rattle.filter_linear.specs.Linear.{IsTermEnd}
use Rattle.filter_linear.specs.declared.end.End.TheVariants.{Greatest}
use Rattle.filter_linear.proofs.Walks.{round_product, rising_greatest, falling_greatest}
use Rattle.filter_linear.proofs.end.greatest_of.Goals as goal

pub returns-then-term-gt0 : goal.returns-then-term-gt0
returns-then-term-gt0 c =
    let present = present_of c.args.store.now in
    let t = c.args.term.now in
    subst (λ z. IsTermEnd Greatest present t z) (sym (round_product c.product_of.result c.product_of.ensures.small))
    (rising_greatest present t c.greatest.result c.product_of.result c.greatest.ensures c.product_of.ensures.product c.product_of.ensures.small c.requires.factor c.if-term-gt0.true)

pub returns-else-term-gt0 : goal.returns-else-term-gt0
returns-else-term-gt0 c =
    let present = present_of c.args.store.now in
    let t = c.args.term.now in
    subst (λ z. IsTermEnd Greatest present t z) (sym (round_product c.product_of-else-term-gt0.result c.product_of-else-term-gt0.ensures.small))
    (falling_greatest present t c.least.result c.product_of-else-term-gt0.result c.least.ensures c.product_of-else-term-gt0.ensures.product c.product_of-else-term-gt0.ensures.small c.requires.factor c.if-term-gt0.false)
