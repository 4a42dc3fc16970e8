use Rattle.std.proofs.Common.{arith}
use Rattle.palm_listed.proofs.Taking.{taking_next}
use Rattle.palm_listed.proofs.without.take_out_all.Goals as goal

pub loop-pair-preserved : goal.loop-pair-preserved
loop-pair-preserved c =
    taking_next c.args.store.now c.loop-pair.store c.take_out.new.store c.args.pairs.now c.loop-pair.pair-index c.pair-item.result
    c.loop-pair.invariant (omega (arith, c.loop-pair-test.true)) c.pair-item.is c.take_out.ensures
