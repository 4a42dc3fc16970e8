use Rattle.palm_engine.specs.Posted.{actives_of}
use Rattle.palm_engine.proofs.Gathering.{kept_conflict}
use Rattle.palm_engine.proofs.engine.Engine.conflict.Goals as goal

pub returns-in_ok-conflict_of-clause-ok : goal.returns-in_ok-conflict_of-clause-ok
returns-in_ok-conflict_of-clause-ok g c =
    let active = actives_of g.F.Filter.meaning c.self.inside.posted.items in
    rw (← c.self.view_is)
    (λ x is. kept_conflict c.self.inside.filtering active c.in-Some.var x c.conflict_of.new.out c.self.invariant.kept c.in-Some.is is (c.in_ok-conflict_of.ensures.ok active))
