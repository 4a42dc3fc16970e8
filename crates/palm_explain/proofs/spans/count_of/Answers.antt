use Rattle.std.proofs.Common.{arith}
use Rattle.palm_explain.proofs.RowSpans.{written_most}
use Rattle.palm_explain.proofs.spans.count_of.Goals as goal

pub overflow_add-count : goal.overflow_add-count
overflow_add-count c =
    let most = written_most c.args.rows.now c.args.number c.args.spans.now c.loop-span.span-index c.span-item.result c.loop-span-test.true c.span-item.is in
    let fits = c.requires.fits in
    let so_far = c.loop-span.invariant in
    let own = c.count_in-count.ensures in omega (arith, most, fits, so_far, own)
