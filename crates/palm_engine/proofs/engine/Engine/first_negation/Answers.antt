use Rattle.palm_engine.proofs.Placing.{negation_first, negation_past}
use Rattle.palm_engine.proofs.engine.Engine.first_negation.Goals as goal

pub returns-in_err-constraint : goal.returns-in_err-constraint
returns-in_err-constraint g c =
    rw (← c.self.view_is, c.from_residual.ensures)
    (negation_past g.F.Filter.meaning c.self.inside.posted.items c.decisions.result c.self.invariant.valid.rising c.decisions.ensures c.in_err-constraint.ensures.found)

pub returns : goal.returns
returns g c =
    rw (← c.self.view_is, c.negated.ensures)
    (negation_first g.F.Filter.meaning c.self.inside.posted.items c.decisions.result c.in_ok-constraint.constraint.now c.self.invariant.valid.rising c.decisions.ensures c.in_ok-constraint.ensures.found)
