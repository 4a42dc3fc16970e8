use Rattle.std.proofs.Common.{◌≡◌, ◌∙◌, Some, set, slice_get, sym, ap, subst, arith}
use Rattle.std.proofs.lemmas.Option.{slice_get-get_or}
use Rattle.palm_explain.specs.Moving.{NumbersEach}
use Rattle.palm_explain.specs.Rows.{row_number}
use Rattle.palm_explain.proofs.Numbering.{numbers_set}
use Rattle.palm_explain.proofs.rows.number_each.Goals as goal

pub number_each-requires-clause-there : goal.number_each-requires-clause-there
number_each-requires-clause-there c v m =
    let rows = c.args.rows.now.items in
    let x = c.var.inside.0 in
    let var : x ≡ c.args.var = c.var.view_is in
    let reached = c.requires.reached in
    let r = c.index_mut-row.result.now in
    let at : slice_get rows x ≡ Some r = slice_get-get_or rows x r (omega (arith, reached, var)) ∙ ap Some (sym c.index_mut-row.ensures.value) in
    let k = c.requires.there v m in (k.0, sym (ap (λ o. row_number o v) (ap (slice_get rows) (sym var) ∙ at)) ∙ k.1)

pub returns : goal.returns
returns c =
    let rows = c.args.rows.now.items in
    let x = c.var.inside.0 in
    let var : x ≡ c.args.var = c.var.view_is in
    let reached = c.requires.reached in
    let r = c.index_mut-row.result.now in
    let at : slice_get rows x ≡ Some r = slice_get-get_or rows x r (omega (arith, reached, var)) ∙ ap Some (sym c.index_mut-row.ensures.value) in
    subst (λ y. NumbersEach rows y c.args.first c.args.values.now (set rows x c.number_each.new.self)) var
    (numbers_set rows x r c.number_each.new.self at c.args.first c.args.values.now c.requires.formed c.number_each.ensures.formed c.number_each.ensures.numbered c.number_each.ensures.others c.number_each.ensures.lost)
