use Rattle.std.proofs.Common.{◌≤◌, length, arith}
use Rattle.palm_domain.specs.Rows.{present_of}
use Rattle.palm_model.specs.declared.limits.TheConstants.{MOST_SCOPE}
use Rattle.palm_model.proofs.cited.Sums.{term_declared}
use Rattle.filter_linear.proofs.Walks.{step_fits, span_none, span_more, span_end}
use Rattle.filter_linear.proofs.span.Span.of_sum.Goals as goal

pub loop-term-init : goal.loop-term-init
loop-term-init c = span_none (present_of c.args.store.now) c.args.terms.now c.args.pair.now.var c.args.pair.now.value

pub of_share-requires-clause-declared : goal.of_share-requires-clause-declared
of_share-requires-clause-declared c = term_declared (length c.args.store.now) c.args.terms.now c.loop-term.term-index c.term-item.result c.requires.declared c.loop-term-test.true c.term-item.is

pub overflow_add-span : goal.overflow_add-span
overflow_add-span c =
    let few : c.loop-term.term-index ≤ MOST_SCOPE = omega (arith, c.requires.few, c.loop-term-test.true) in
    step_fits c.loop-term.term-index c.loop-term.span.least c.in_ok-share.share.least few c.loop-term.invariant.least_small c.in_ok-share.ensures.some.least_small

pub overflow_add-span-in-loop-term : goal.overflow_add-span-in-loop-term
overflow_add-span-in-loop-term c =
    let few : c.loop-term.term-index ≤ MOST_SCOPE = omega (arith, c.requires.few, c.loop-term-test.true) in
    step_fits c.loop-term.term-index c.loop-term.span.greatest c.in_ok-share.share.greatest few c.loop-term.invariant.greatest_small c.in_ok-share.ensures.some.greatest_small

pub loop-term-preserved : goal.loop-term-preserved
loop-term-preserved c =
    span_more (present_of c.args.store.now) c.args.terms.now c.args.pair.now.var c.args.pair.now.value c.loop-term.term-index c.term-item.result c.loop-term.span c.in_ok-share.share
    c.loop-term-test.true c.requires.few c.term-item.is c.loop-term.invariant c.in_ok-share.ensures.some

pub returns-clause-some : goal.returns-clause-some
returns-clause-some c =
    span_end (present_of c.args.store.now) c.args.terms.now c.args.pair.now.var c.args.pair.now.value c.loop-term.term-index c.loop-term.span
    c.loop-term-test.false c.loop-term.auto.term-index-end c.loop-term.invariant
