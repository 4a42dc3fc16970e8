use Rattle.std.proofs.Common.{◌≡◌, ◌∙◌, ◌<◌, Some, length, slice_get, sym, ap, arith}
use Rattle.std.proofs.lemmas.List.{length-map}
use Rattle.std.proofs.lemmas.Option.{slice_get-get_or}
use Rattle.palm_explain.specs.Losing.{unmarked}
use Rattle.palm_explain.proofs.Told.{told_at}
use Rattle.palm_explain.proofs.naming.names_at.Goals as goal

pub returns-clause-tells : goal.returns-clause-tells
returns-clause-tells c e was =
    let all = c.args.log.now.items in
    let log = c.mark_each.new.log.items in
    let g = c.index.result.now in
    let long = sym (length-map log unmarked) ∙ ap length c.mark_each.ensures.same in
    let within : c.args.place < length log = omega (arith, long, c.requires.within) in
    let at : slice_get log c.args.place ≡ Some g = slice_get-get_or log c.args.place g within ∙ ap Some (sym c.index.ensures) in
    told_at all log c.args.rows.now c.requires.entered.0 c.args.cid.now c.args.place g e c.requires.entered.1 c.mark_each.ensures.same c.mark_each.ensures.marked at was
