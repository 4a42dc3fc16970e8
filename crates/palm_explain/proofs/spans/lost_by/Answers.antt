use Rattle.std.proofs.Common.{arith}
use Rattle.palm_explain.proofs.RowSpans.{span_most}
use Rattle.palm_explain.proofs.spans.lost_by.Goals as goal

pub returns-in-Some-clause-most : goal.returns-in-Some-clause-most
returns-in-Some-clause-most c n low high =
    let most = span_most c.args.rows.now c.args.var c.in-Some.row.now n low high c.in-Some.ensures in omega (arith, most, c.len.ensures)
