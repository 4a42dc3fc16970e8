use Rattle.palm_base.specs.declared.terms.Cid.TheVariants.{User}
use Rattle.palm_engine.specs.Posted.{active_of}
use Rattle.palm_engine.proofs.Placing.{filter_active, filter_only, none_active}
use Rattle.palm_engine.proofs.engine.Engine.filter.Goals as goal

pub returns-in_err-constraint-clause-filter : goal.returns-in_err-constraint-clause-filter
returns-in_err-constraint-clause-filter g c =
    rw (← c.self.view_is, c.from_residual.ensures)
    (none_active (active_of g.F.Filter.meaning) c.self.inside.posted.items c.place_of.result (User c.args.number) c.in_err-constraint.ensures.found c.place_of.ensures.owner)

pub returns-clause-filter : goal.returns-clause-filter
returns-clause-filter g c =
    rw (← c.self.view_is)
    (filter_active (active_of g.F.Filter.meaning) (λ f. g.F.Filter.meaning f.now) c.self.inside.posted.items c.place_of.result c.args.number c.in_ok-constraint.constraint.now
    c.in_ok-constraint.ensures.found c.place_of.ensures.owner c.filter.result c.filter.ensures)

pub returns-clause-only : goal.returns-clause-only
returns-clause-only g c =
    rw (← c.self.view_is)
    (filter_only (active_of g.F.Filter.meaning) (λ f. g.F.Filter.meaning f.now) c.self.inside.posted.items c.place_of.result c.args.number c.in_ok-constraint.constraint.now
    c.in_ok-constraint.ensures.found c.place_of.ensures.owner c.filter.result c.filter.ensures)
