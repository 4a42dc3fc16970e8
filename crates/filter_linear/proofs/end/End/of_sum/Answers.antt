use Rattle.std.proofs.Common.{length, to_z, w64}
use Rattle.palm_domain.specs.Rows.{present_of}
use Rattle.palm_model.proofs.cited.Sums.{term_declared}
use Rattle.filter_linear.proofs.Walks.{end_more}
use Rattle.filter_linear.proofs.end.End.of_sum.Goals as goal

pub of_share-requires-clause-declared : goal.of_share-requires-clause-declared
of_share-requires-clause-declared c = term_declared (length c.args.store.now) c.args.terms.now c.loop-term.term-index c.term-item.result c.requires.declared c.loop-term-test.true c.term-item.is

pub loop-term-preserved : goal.loop-term-preserved
loop-term-preserved c =
    end_more c.args.self (present_of c.args.store.now) c.args.terms.now c.args.pair.now.var c.args.pair.now.value c.loop-term.term-index c.term-item.result
    (to_z w64 c.loop-term.sum-bits) c.in_ok-sum.field-0 c.loop-term-test.true c.requires.few c.term-item.is c.loop-term.invariant c.in_ok-sum.ensures.some
