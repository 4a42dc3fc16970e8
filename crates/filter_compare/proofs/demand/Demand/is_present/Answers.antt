use Rattle.std.proofs.Common.{Contains, FitsSigned, w32, w64, sym, subst, arith}
use Rattle.std.proofs.lemmas.Int.{ints, to_z-of_z}
use Rattle.palm_base.proofs.cited.Telling.{tells_both, tells_false}
use Rattle.palm_domain.specs.Rows.{present_of}
use Rattle.palm_model.specs.Domains.{values_of}
use Rattle.filter_compare.proofs.Comparisons.{member_between}
use Rattle.filter_compare.proofs.demand.Demand.is_present.Goals as goal

-- no number of a value is there, and each value is between the ends
pub returns-in-Err : goal.returns-in-Err
returns-in-Err c =
    let d = c.args.self.now in
    tells_both (Contains (values_of (present_of c.args.store.now) d.var) d.bound) c.is_between.result
    (λ e. let fits = c.is_between.ensures.fits e in absurd (c.in-Err.ensures (subst (FitsSigned w32) (sym (to_z-of_z w64 d.bound (omega (arith, ints, fits)))) fits)))
    (λ e m. tells_false _ c.is_between.result c.is_between.ensures.between e
    (member_between c.initial_values-values.result.now d.bound _ _ c.initial_values-values.ensures.ascend c.initial_values-values.ensures.filled
    c.index-values-0.is c.index-values-values.is (c.initial_values-values.ensures.inside d.bound m)))
