use Rattle.std.proofs.Common.{sym}
use Rattle.palm_explain.specs.CidSets.{IsMember}
use Rattle.palm_engine.specs.Posted.{actives_of}
use Rattle.palm_engine.proofs.Gathering.{flat_all, flat_more, flat_none}
use Rattle.palm_engine.proofs.conflicts.add_flat_each.Goals as goal

pub loop-cid-init : goal.loop-cid-init
loop-cid-init g c = flat_none (actives_of g.F.Filter.meaning c.args.posted.now.items) c.args.from.now (IsMember c.args.cids.now)

pub add_flat-requires-clause-active : goal.add_flat-requires-clause-active
add_flat-requires-clause-active g c = c.requires.active c.cid-item.result (c.loop-cid.cid-index, c.loop-cid-test.true, sym c.cid-item.is)

pub loop-cid-preserved : goal.loop-cid-preserved
loop-cid-preserved g c =
    flat_more (actives_of g.F.Filter.meaning c.args.posted.now.items) c.args.from.now c.loop-cid.cid-index c.cid-item.result (IsMember c.args.cids.now) (IsMember c.loop-cid.cids) (IsMember c.add_flat.new.cids)
    c.loop-cid-test.true c.cid-item.is c.loop-cid.invariant c.in_ok-add_flat.ensures

pub returns : goal.returns
returns g c =
    flat_all (actives_of g.F.Filter.meaning c.args.posted.now.items) c.args.from.now c.loop-cid.cid-index (IsMember c.args.cids.now) (IsMember c.loop-cid.cids) c.loop-cid-test.false c.loop-cid.invariant
