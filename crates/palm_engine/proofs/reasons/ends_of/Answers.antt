use Rattle.std.proofs.Common.{ℤ, List, Contains, sym, subst}
use Rattle.palm_engine.proofs.Telling.{ends_hold}
use Rattle.palm_engine.proofs.reasons.ends_of.Goals as goal

pub returns-clause-some : goal.returns-clause-some
returns-clause-some c = λ v has.
    let values = c.initial_values-values in
    ends_hold values.result.now values.ensures.ascend c.index-values-0.result c.index-values-values.result c.index-values-0.is c.index-values-values.is v
    (subst (λ (vs : List ℤ). Contains vs v) (sym values.ensures.values) has)
