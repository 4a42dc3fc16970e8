use Rattle.std.proofs.Common.{Contains, subst, arith}
use Rattle.std.proofs.lemmas.List.Elements.{AllWithin-more}
use Rattle.palm_model.specs.Log.{log_pairs}
use Rattle.tests_engine.proofs.Found.{at_any}
use Rattle.tests_engine.proofs.log.are_removed.Goals as goal

pub loop-pair-preserved : goal.loop-pair-preserved
loop-pair-preserved c =
    let pairs = c.args.pairs.now in
    let at = c.loop-pair.pair-index in
    let gone = Contains (log_pairs c.args.log.now.log) in
    AllWithin-more gone pairs 0 at c.loop-pair.invariant
    (λ d. subst gone (at_any pairs at c.pair-item.result d c.loop-pair-test.true c.pair-item.is) (c.is_removed.ensures c.if-not-is_removed.false))

pub returns : goal.returns
returns c = λ told k d within. c.loop-pair.invariant k d (omega arith) (omega (arith, c.loop-pair-test.false, within))
