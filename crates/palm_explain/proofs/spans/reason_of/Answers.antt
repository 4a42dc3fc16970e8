use Rattle.std.proofs.Common.{◌≡◌, ◌∙◌, ◌-◌, suc, length, slice_get, ap, arith}
use Rattle.palm_explain.specs.Rows.{rest_in}
use Rattle.palm_explain.proofs.spans.reason_of.Goals as goal

pub loop-next-smaller : goal.loop-next-smaller
loop-next-smaller c = let more = ap length (c.in-Some-next_before.ensures.some.1 c.args.span.now.low) in omega (arith, more)

pub loop-next-preserved : goal.loop-next-preserved
loop-next-preserved c =
    let first = c.in-Some-next_before.ensures.some.1 c.args.span.now.low in
    let more = ap length first in
    let left = c.loop-next.left in
    let e : left ≡ suc (left - 1) = omega (arith, c.if-left-eq0.false) in
    let so_far = c.loop-next.invariant.behind in
    record {
      behind = omega (arith, more, so_far, e);
      at = c.loop-next.invariant.at ∙ ap (slice_get (rest_in c.in-Some.row.now c.args.number c.args.span.now.high c.loop-next.place)) e ∙ ap (λ vs. slice_get vs (suc (left - 1))) first;
    }
