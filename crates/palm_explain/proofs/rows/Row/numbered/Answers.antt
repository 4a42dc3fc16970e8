use Rattle.std.proofs.Common.{◌<◌, ◌∙◌, length, Some, ap, sym, arith}
use Rattle.std.proofs.lemmas.Option.{slice_get-get_or}
use Rattle.palm_explain.proofs.RowNumbers.{number_found}
use Rattle.palm_explain.proofs.rows.Row.numbered.Goals as goal

pub returns-clause-number : goal.returns-clause-number
returns-clause-number c =
    let r = c.args.self.now in
    let i = c.args.place in
    let v = c.index.result.now in
    let k = c.index-2.result.now in
    let within = c.requires.within in
    let long = c.requires.formed.numbers in
    let lt : i < length r.numbers.items = omega (arith, within, long) in
    number_found r.values.items r.numbers.items i v k c.requires.formed.ascends within (sym c.index.ensures) (slice_get-get_or r.numbers.items i k lt ∙ ap Some (sym c.index-2.ensures))
