use Rattle.std.proofs.Common.{[], ◌∷◌, length, ap, sym, arith, length-append}
use Rattle.palm_domain.specs.Rows.{present_of}
use Rattle.palm_search.proofs.cited.Showing.{rows_push}
use Rattle.palm_search.proofs.view.show.Goals as goal

pub loop-var-preserved : goal.loop-var-preserved
loop-var-preserved c =
    let before = c.loop-var.view.items in
    let row = c.row_of.result in
    let many = c.loop-var.invariant.1 in
    let longer = ap length c.in_ok-push.ensures.items in
    let one_more = length-append before (row ∷ []) in (
      rows_push (present_of c.args.store.now) before c.push.new.self.items row c.loop-var.var (sym many) c.row_of.ensures c.in_ok-push.ensures.items c.loop-var.invariant.0,
      omega (arith, many, longer, one_more),
    )
