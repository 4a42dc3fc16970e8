use Rattle.palm_domain.specs.Rows.{present_values}
use Rattle.palm_engine.proofs.Hits.{if_none}
use Rattle.palm_engine.proofs.Others.{other_none, same_value}
use Rattle.palm_engine.proofs.alike.other_value.Goals as goal

pub returns-in_err-next-clause-none : goal.returns-in_err-next-clause-none
returns-in_err-next-clause-none c = if_none c.from_residual.result
    (other_none (present_values c.args.store.now c.args.var) c.first_placed-least.result.value c.args.but (record { member = c.first_placed-least.ensures.least.member; least = c.first_placed-least.ensures.least.least })
    (same_value c.ne.result c.first_placed-least.result.value c.args.but c.ne.ensures c.if-ne.false) c.in_err-next.ensures.next)
