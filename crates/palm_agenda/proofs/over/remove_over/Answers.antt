use Rattle.std.proofs.Common.{sym, arith, ◌<◌, ◌∙◌, length}
use Rattle.palm_agenda.proofs.Rows.{cut_more, cut_all, row_cut, same_many}
use Rattle.palm_agenda.proofs.over.remove_over.Goals as goal

pub remove_at-requires : goal.remove_at-requires
remove_at-requires c =
    let old = c.requires c.var-item.result (c.loop-var.var-index, c.loop-var-test.true, sym c.var-item.is) in
    omega (arith, c.loop-var.invariant.many, old)

pub loop-var-preserved : goal.loop-var-preserved
loop-var-preserved c =
    let old = c.requires c.var-item.result (c.loop-var.var-index, c.loop-var-test.true, sym c.var-item.is) in
    let within : c.var-item.result < length c.loop-var.over.items = omega (arith, c.loop-var.invariant.many, old) in
    record {
      cids = cut_more c.loop-var.over.items c.remove_at.new.over.items c.var-item.result c.args.cid.now within c.remove_at.ensures
          c.args.over.now.items c.args.scope.now c.loop-var.var-index c.loop-var-test.true c.var-item.is c.loop-var.invariant.cids;
      many = same_many c.loop-var.over.items c.remove_at.new.over.items c.var-item.result (row_cut c.loop-var.over.items c.var-item.result c.args.cid.now) within c.remove_at.ensures ∙ c.loop-var.invariant.many;
    }

pub returns : goal.returns
returns c = cut_all c.loop-var.over.items c.args.over.now.items c.args.scope.now c.loop-var.var-index c.args.cid.now c.loop-var-test.false c.loop-var.invariant.cids
