use Rattle.std.proofs.Common.{ℕ, ℤ, rules, w32, SFits, List, Contains, sym, subst}
use Rattle.std.proofs.lemmas.Int.{to_z-of_z}
use Rattle.palm_domain.specs.Rows.{present_of}
use Rattle.palm_filter.specs.Shapes.{IsApart, IsShaped}
use Rattle.palm_engine.specs.Posted.{active_of}
use Rattle.palm_engine.proofs.apart.are_known.Goals as goal

pub returns-in-Apart : goal.returns-in-Apart
returns-in-Apart g c = λ free v has may.
    let owner = active_of g.F.Filter.meaning c.args.constraint.now in
    let shaped = subst (λ shape. IsShaped owner.con c.args.var shape) c.in-Apart.is c.requires.shaped in
    let fits : SFits w32 c.in-Apart.by = search rules in
    let apart = subst (λ (by : ℤ). IsApart owner.con c.args.var by) (sym (to_z-of_z w32 c.in-Apart.by fits)) shaped in
    let ends = c.ends_of-low.ensures v has may in
    apart (present_of c.args.store.now) v has (λ y m other. c.leave_free.ensures free v has ends.0 ends.1 y (subst (λ (vars : List ℕ). Contains vars y) (sym c.scope.ensures.scope) m) other)
