use Rattle.std.proofs.Common.{w64, rules, sym, subst}
use Rattle.std.proofs.lemmas.Int.{to_z-of_z}
use Rattle.palm_domain.specs.Rows.{present_of}
use Rattle.palm_model.specs.Domains.{values_of}
use Rattle.filter_occur.specs.Count.{IsEnough}
use Rattle.filter_occur.proofs.Enough.{other_enough}
use Rattle.filter_occur.proofs.rule.CountRule.enough.Goals as goal

pub returns-else-eq : goal.returns-else-eq
returns-else-eq c =
    let o = c.args.self.now in
    let d = present_of c.args.store.now in
    other_enough d c.args.pair.now.var c.args.pair.now.value o.op o.target _ c.in-Variable.target c.in-Variable.is (search rules)
    (subst (λ enough. IsEnough o.op (values_of d c.in-Variable.target) enough) (sym (to_z-of_z w64 c.enough_for.result (search rules))) c.enough_for.ensures)
