use Rattle.std.proofs.Common.{◌≡◌, ◌∙◌, ◌<◌, Some, length, get_or, sym, ap, arith}
use Rattle.std.proofs.lemmas.Option.{slice_get-get_or}
use Rattle.palm_explain.proofs.RowNumbers.{number_found}
use Rattle.palm_explain.proofs.rows.Row.number_near.Goals as goal

pub returns-then-has_at : goal.returns-then-has_at
returns-then-has_at c =
    let r = c.args.self.now in
    let i = c.args.near.now in
    let f = c.has_at.ensures c.if-has_at.true in
    let within = f.0 in
    let long = c.requires.numbers in
    let lt : i < length r.numbers.items = omega (arith, within, long) in
    let at : get_or r.values.items i c.args.value ≡ c.args.value = f.1 in
    sym (number_found r.values.items r.numbers.items i c.args.value c.index.result.now c.requires.ascends f.0 at (slice_get-get_or r.numbers.items i c.index.result.now lt ∙ ap Some (sym c.index.ensures)))

pub returns-in-Some : goal.returns-in-Some
returns-in-Some c =
    let r = c.args.self.now in
    let i = c.in-Some.place in
    let f = c.in-Some.ensures in
    let within = f.0 in
    let long = c.requires.numbers in
    let lt : i < length r.numbers.items = omega (arith, within, long) in
    sym (number_found r.values.items r.numbers.items i c.args.value c.index-in-Some.result.now c.requires.ascends f.0 f.1 (slice_get-get_or r.numbers.items i c.index-in-Some.result.now lt ∙ ap Some (sym c.index-in-Some.ensures)))

pub returns-in-None : goal.returns-in-None
returns-in-None c = sym c.in-None.ensures
