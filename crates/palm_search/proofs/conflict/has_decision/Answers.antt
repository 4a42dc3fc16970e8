use Rattle.std.proofs.Common.{[], sym}
use Rattle.palm_search.proofs.FlatConflict.{decided_more, no_variable}
use Rattle.palm_search.proofs.conflict.has_decision.Goals as goal

pub loop-cid-preserved : goal.loop-cid-preserved
loop-cid-preserved c =
    let cid = c.cid-item.result in
    decided_more c.args.cids.now c.loop-cid.cid-index cid [] [] c.loop-cid-test.true c.cid-item.is c.loop-cid.invariant (sym (no_variable cid c.in_default.not-Decide))
