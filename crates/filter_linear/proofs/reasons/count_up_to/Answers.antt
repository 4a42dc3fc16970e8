use Rattle.std.proofs.Common.{subst, int_lt, pos, ◌+ℤ◌, rules}
use Rattle.palm_base.specs.Order.{IsPartedAt}
use Rattle.palm_domain.specs.Rows.{declared_values}
use Rattle.filter_linear.proofs.Beyond.{higher_last}
use Rattle.filter_linear.proofs.reasons.count_up_to.Goals as goal

pub returns-clause-higher : goal.returns-clause-higher
returns-clause-higher c =
    let vs = declared_values c.args.store.now c.args.var in
    let high = c.greatest.result in
    let parted : IsPartedAt (λ v. int_lt v (high +ℤ pos 1)) vs c.declared_below.result = subst (λ n. IsPartedAt (λ v. int_lt v n) vs c.declared_below.result) (search rules) c.declared_below.ensures in
    (high, c.greatest.ensures, higher_last vs high c.declared_below.result parted)
