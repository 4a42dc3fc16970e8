use Rattle.palm_engine.specs.Posted.{active_of, actives_of}
use Rattle.palm_engine.proofs.Keeping.{activated_posts}
use Rattle.palm_engine.proofs.Fitting.{activated, engine_or_unchanged}
use Rattle.palm_engine.proofs.cited.Results.{on_ok}
use Rattle.palm_engine.proofs.engine.Engine.activate.Goals as goal

pub invariant_of-self : goal.invariant_of-self
invariant_of-self g c =
    engine_or_unchanged g.F.Filter.meaning c.self.inside.filtering c.insert.new.agenda c.args.constraint c.self.inside.posted.items c.insert.new.posted.items c.insert.result
    (rw (← c.self.view_is) at c.requires.inactive) c.self.invariant
    (activated g.F.Filter.meaning c.self.inside.filtering c.insert.new.agenda c.args.constraint c.self.inside.posted.items c.insert.new.posted.items c.insert.result
    (rw (← c.self.view_is) at c.requires.declared) (rw (← c.self.view_is) at c.requires.justifiers) c.insert.ensures.active c.insert.ensures.connected c.insert.ensures.pending c.insert.ensures.formed c.insert.ensures.shaped)
    c.insert.ensures.err

pub returns-clause-ok : goal.returns-clause-ok
returns-clause-ok g c =
    rw (← c.self.view_is)
    (on_ok c.insert.result _ _
    (λ is. activated_posts c.self.inside.filtering c.insert.new.agenda (active_of g.F.Filter.meaning c.args.constraint) (actives_of g.F.Filter.meaning c.self.inside.posted.items) (actives_of g.F.Filter.meaning c.insert.new.posted.items)
    (rw (← c.self.view_is) at c.requires.inactive) is c.self.invariant)
    (activated g.F.Filter.meaning c.self.inside.filtering c.insert.new.agenda c.args.constraint c.self.inside.posted.items c.insert.new.posted.items c.insert.result
    (rw (← c.self.view_is) at c.requires.declared) (rw (← c.self.view_is) at c.requires.justifiers) c.insert.ensures.active c.insert.ensures.connected c.insert.ensures.pending c.insert.ensures.formed c.insert.ensures.shaped))

pub returns-clause-valid : goal.returns-clause-valid
returns-clause-valid g c = (invariant_of-self g c).valid
