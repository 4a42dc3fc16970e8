use Rattle.palm_domain.specs.Rows.{present_of}
use Rattle.filter_linear.proofs.Walks.{rising_least, rising_greatest, falling_least, falling_greatest, span_of_ends}
use Rattle.filter_linear.proofs.span.Span.of_term.Goals as goal

pub returns-then-term-gt0-clause-some : goal.returns-then-term-gt0-clause-some
returns-then-term-gt0-clause-some c =
    span_of_ends (present_of c.args.store.now) c.args.term.now c.product_of-least.result c.product_of-greatest.result
    (rising_least (present_of c.args.store.now) c.args.term.now c.least.result c.product_of-least.result c.least.ensures c.product_of-least.ensures.product c.product_of-least.ensures.small c.requires.factor c.if-term-gt0.true)
    (rising_greatest (present_of c.args.store.now) c.args.term.now c.greatest.result c.product_of-greatest.result c.greatest.ensures c.product_of-greatest.ensures.product c.product_of-greatest.ensures.small c.requires.factor c.if-term-gt0.true)

pub returns-else-term-gt0-clause-some : goal.returns-else-term-gt0-clause-some
returns-else-term-gt0-clause-some c =
    span_of_ends (present_of c.args.store.now) c.args.term.now c.product_of-greatest.result c.product_of-least.result
    (falling_least (present_of c.args.store.now) c.args.term.now c.greatest.result c.product_of-greatest.result c.greatest.ensures c.product_of-greatest.ensures.product c.product_of-greatest.ensures.small c.requires.factor c.if-term-gt0.false)
    (falling_greatest (present_of c.args.store.now) c.args.term.now c.least.result c.product_of-least.result c.least.ensures c.product_of-least.ensures.product c.product_of-least.ensures.small c.requires.factor c.if-term-gt0.false)
