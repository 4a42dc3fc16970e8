use Rattle.std.proofs.Common.{◌∙◌, ◌+◌, ◌∷◌, ap, arith}
use Rattle.std.proofs.lemmas.Int.{ints}
use Rattle.std.proofs.lemmas.Option.{get_or_from_slice_get}
use Rattle.palm_explain.specs.declared.spans.Span.{Span}
use Rattle.palm_explain.specs.Rows.{rest_in}
use Rattle.palm_explain.proofs.NeededPlaces.{part_next}
use Rattle.palm_explain.proofs.NotedSpans.{none_noted}
use Rattle.palm_explain.proofs.needing.note_between.Goals as goal

pub loop-next-preserved : goal.loop-next-preserved
loop-next-preserved c =
    let r = c.in-Some.row.now in
    let n = c.args.number in
    let s : Span = record { var = c.args.var; low = c.args.low; high = c.args.high } in
    let next = c.in-Some-next_before.next in
    let k = c.numbered.result.1 in
    let v = c.numbered.result.0 in
    let rest = c.in-Some-next_before.ensures.some.1 v ∙ ap (λ w. w ∷ rest_in r n s.high (next + 1)) (get_or_from_slice_get r.values.items next v v c.numbered.ensures.value) in
    part_next c.args.rows.now r n s c.in-Some.ensures c.args.noted.now c.loop-next.noted c.add.new.self c.loop-next.place next k v
    c.loop-next.invariant rest c.numbered.ensures.number (let fits = c.ranges.number.fits in omega (arith, fits))
    c.in_ok-add.ensures.there c.in_ok-add.ensures.stay c.in_ok-add.ensures.only

pub returns-then-high-low : goal.returns-then-high-low
returns-then-high-low c =
    let s : Span = record { var = c.args.var; low = c.args.low; high = c.args.high } in
    none_noted c.args.rows.now s c.args.number c.args.noted.now (omega (arith, ints, c.if-high-low.true, c.low.view_is, c.high.view_is))
