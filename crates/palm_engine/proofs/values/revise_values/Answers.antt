use Rattle.std.proofs.Common.{ℤ, rules, w32, SFits, sym, subst}
use Rattle.std.proofs.lemmas.Int.{to_z-of_z}
use Rattle.palm_filter.specs.Shapes.{IsApart, IsShaped}
use Rattle.palm_engine.specs.Posted.{active_of}
use Rattle.palm_engine.proofs.values.revise_values.Goals as goal

pub revise_apart-requires-clause-apart : goal.revise_apart-requires-clause-apart
revise_apart-requires-clause-apart g c =
    let owner = active_of g.F.Filter.meaning c.args.constraint.now in
    let shaped = subst (λ shape. IsShaped owner.con c.args.var shape) c.in-Apart.is c.requires.shaped in
    let fits : SFits w32 c.in-Apart.by = search rules in
    subst (λ (by : ℤ). IsApart owner.con c.args.var by) (sym (to_z-of_z w32 c.in-Apart.by fits)) shaped
