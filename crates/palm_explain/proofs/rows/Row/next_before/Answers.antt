use Rattle.std.proofs.Common.{◌∙◌, ◌+◌, ◌<◌, ◌∷◌, length, Some, sym, ap, arith}
use Rattle.std.proofs.lemmas.Int.{ints}
use Rattle.std.proofs.lemmas.List.{get_or_default}
use Rattle.std.proofs.lemmas.Option.{slice_get-get_or}
use Rattle.palm_explain.specs.Rows.{rest_in}
use Rattle.palm_explain.proofs.RowNumbers.{number_found}
use Rattle.palm_explain.proofs.RowSpans.{rest_beyond, rest_found, rest_passed}
use Rattle.palm_explain.proofs.rows.Row.next_before.Goals as goal

pub returns-then-index-number-clause-some : goal.returns-then-index-number-clause-some
returns-then-index-number-clause-some c =
    let r = c.args.self.now in
    let i = c.loop-next.next in
    let v = c.index.result.now in
    let k = c.index-in-loop-next.result.now in
    let within : i < length r.values.items = omega (arith, c.loop-next-test.true, c.len.ensures) in
    let long = c.requires.numbers in
    let lt : i < length r.numbers.items = omega (arith, within, long) in
    let at = slice_get-get_or r.values.items i v within ∙ ap Some (sym c.index.ensures) in
    let is = number_found r.values.items r.numbers.items i v k c.requires.ascends within (sym c.index.ensures) (slice_get-get_or r.numbers.items i k lt ∙ ap Some (sym c.index-in-loop-next.ensures)) in (
      within,
      λ d. c.loop-next.invariant ∙ rest_found r c.args.number c.args.high i v k at (omega (arith, ints, c.if-index-high.true)) is c.if-index-number.true
          ∙ ap (λ w. w ∷ rest_in r c.args.number c.args.high (i + 1)) (c.index.ensures ∙ get_or_default r.values.items i v d within),
    )

pub loop-next-preserved : goal.loop-next-preserved
loop-next-preserved c =
    let r = c.args.self.now in
    let i = c.loop-next.next in
    let v = c.index.result.now in
    let k = c.index-in-loop-next.result.now in
    let within : i < length r.values.items = omega (arith, c.loop-next-test.true, c.len.ensures) in
    let long = c.requires.numbers in
    let lt : i < length r.numbers.items = omega (arith, within, long) in
    let at = slice_get-get_or r.values.items i v within ∙ ap Some (sym c.index.ensures) in
    let is = number_found r.values.items r.numbers.items i v k c.requires.ascends within (sym c.index.ensures) (slice_get-get_or r.numbers.items i k lt ∙ ap Some (sym c.index-in-loop-next.ensures)) in
    c.loop-next.invariant ∙ rest_passed r c.args.number c.args.high i v k at is c.if-index-number.false

pub returns-else-index-high-clause-none : goal.returns-else-index-high-clause-none
returns-else-index-high-clause-none c =
    let r = c.args.self.now in
    let i = c.loop-next.next in
    let v = c.index.result.now in
    let within : i < length r.values.items = omega (arith, c.loop-next-test.true, c.len.ensures) in
    let at = slice_get-get_or r.values.items i v within ∙ ap Some (sym c.index.ensures) in
    c.loop-next.invariant ∙ rest_beyond r c.args.number c.args.high i v c.requires at (omega (arith, ints, c.if-index-high.false))
