use Rattle.std.proofs.Common.{inr, sym, arith}
use Rattle.palm_agenda.proofs.Rows.{put_none, put_more, put_all, put_room_stays, row_put, same_many}
use Rattle.palm_agenda.specs.Cids.{cids_at}
use Rattle.palm_agenda.proofs.over.insert_over.Goals as goal

pub loop-var-init : goal.loop-var-init
loop-var-init c = record {
  cids = λ x k. put_none (cids_at c.args.over.now.items x) x c.args.cid.now k;
  within = λ x m. (c.requires x m).within;
  room = λ x m. inr (c.requires x m).room;
}

pub insert_at-requires-clause-within : goal.insert_at-requires-clause-within
insert_at-requires-clause-within c = c.loop-var.invariant.within c.var-item.result (c.loop-var.var-index, c.loop-var-test.true, sym c.var-item.is)

pub loop-var-preserved : goal.loop-var-preserved
loop-var-preserved c =
    let within = c.loop-var.invariant.within c.var-item.result (c.loop-var.var-index, c.loop-var-test.true, sym c.var-item.is) in
    record {
      cids = put_more c.loop-var.over.items c.insert_at.new.over.items c.var-item.result c.args.cid.now within c.insert_at.ensures
          c.args.over.now.items c.args.scope.now c.loop-var.var-index c.loop-var-test.true c.var-item.is c.loop-var.invariant.cids;
      within = λ x m.
          let many = same_many c.loop-var.over.items c.insert_at.new.over.items c.var-item.result (row_put c.loop-var.over.items c.var-item.result c.args.cid.now) within c.insert_at.ensures in
          let old = c.loop-var.invariant.within x m in
          omega (arith, many, old);
      room = λ x m. put_room_stays c.loop-var.over.items c.insert_at.new.over.items c.var-item.result c.args.cid.now within c.insert_at.ensures x (c.loop-var.invariant.room x m);
    }

pub returns : goal.returns
returns c = put_all c.loop-var.over.items c.args.over.now.items c.args.scope.now c.loop-var.var-index c.args.cid.now c.loop-var-test.false c.loop-var.invariant.cids
