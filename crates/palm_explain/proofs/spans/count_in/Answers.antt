use Rattle.std.proofs.Common.{◌<◌, ◌^◌, length, ap, rules, arith}
use Rattle.palm_explain.proofs.RowSpans.{span_here, span_most}
use Rattle.palm_explain.proofs.spans.count_in.Goals as goal

pub overflow_add-count : goal.overflow_add-count
overflow_add-count c =
    let r = c.in-Some.row.now in
    let s = c.args.span.now in
    let here = ap length (span_here c.args.rows.now s.var r c.args.number s.low s.high c.in-Some.ensures) in
    let most = span_most c.args.rows.now s.var r c.args.number s.low s.high c.in-Some.ensures in
    let so_far = c.loop-next.invariant.counted in
    let more = ap length (c.in-Some-next_before.ensures.some.1 s.low) in
    let fits : length r.values.items < 2 ^ 64 = search rules in omega (arith, here, most, so_far, more, fits)

pub loop-next-smaller : goal.loop-next-smaller
loop-next-smaller c = let more = ap length (c.in-Some-next_before.ensures.some.1 c.args.span.now.low) in omega (arith, more)

pub loop-next-preserved : goal.loop-next-preserved
loop-next-preserved c =
    let more = ap length (c.in-Some-next_before.ensures.some.1 c.args.span.now.low) in
    let so_far = c.loop-next.invariant.counted in record { counted = omega (arith, more, so_far) }
