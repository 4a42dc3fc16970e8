use Rattle.std.proofs.Common.{map, pos, ext_get_or, arith, sym, ◌∙◌}
use Rattle.std.proofs.lemmas.List.{length-map}
use Rattle.palm_model.specs.Trial.{listed}
use Rattle.palm_model.proofs.satisfied.is_row.Goals as goal

pub returns : goal.returns
returns c =
    let wanted = map (listed c.args.values.now) c.args.vars.now in
    let long = length-map c.args.vars.now (listed c.args.values.now) in
    ext_get_or (pos 0) c.args.row.now wanted (c.if-row-vars.false ∙ sym long) (λ k lt. c.loop-place.invariant k (pos 0) (omega arith))
