use Rattle.std.proofs.Common.{subst, rules, int_lt}
use Rattle.palm_base.specs.Order.{IsPartedAt}
use Rattle.palm_domain.specs.Rows.{declared_values}
use Rattle.palm_filter.proofs.intervals.count_below.Goals as goal

pub returns-then-shift-variables : goal.returns-then-shift-variables
returns-then-shift-variables c =
    subst (λ n. IsPartedAt (λ w. int_lt w n) (declared_values c.args.store.now c.args.shift.now.var) c.declared_below.result) (search rules) c.declared_below.ensures
