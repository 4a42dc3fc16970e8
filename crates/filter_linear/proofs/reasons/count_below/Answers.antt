use Rattle.std.proofs.Common.{subst, sym, int_lt, rules}
use Rattle.palm_base.proofs.cited.Sorted.{filter_front}
use Rattle.palm_base.specs.Order.{IsPartedAt}
use Rattle.palm_domain.specs.Rows.{declared_values}
use Rattle.filter_linear.proofs.reasons.count_below.Goals as goal

pub returns-clause-lower : goal.returns-clause-lower
returns-clause-lower c =
    let vs = declared_values c.args.store.now c.args.var in
    let low = c.least.result in
    let parted : IsPartedAt (λ v. int_lt v low) vs c.declared_below.result = subst (λ n. IsPartedAt (λ v. int_lt v n) vs c.declared_below.result) (search rules) c.declared_below.ensures in
    (low, c.least.ensures, sym (filter_front (λ v. int_lt v low) vs c.declared_below.result parted.before parted.after))
