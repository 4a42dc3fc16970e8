use Rattle.std.proofs.Common.{◌∙◌, ap}
use Rattle.palm_base.specs.Order.{same_cid}
use Rattle.palm_engine.specs.Posted.{active_of}
use Rattle.palm_engine.proofs.Placing.{active_tells, none_active}
use Rattle.palm_engine.proofs.engine.Engine.is_active.Goals as goal

pub returns-in-Some : goal.returns-in-Some
returns-in-Some g c =
    rw (← c.self.view_is)
    (active_tells (active_of g.F.Filter.meaning) c.self.inside.posted.items c.place_of.result c.in-Some.constraint.now c.args.cid c.is_same.result c.in-Some.ensures.found c.place_of.ensures.owner
    (c.is_same.ensures ∙ ap (λ d. same_cid d c.args.cid) c.cid.ensures))

pub returns-in-None : goal.returns-in-None
returns-in-None g c =
    rw (← c.self.view_is)
    (none_active (active_of g.F.Filter.meaning) c.self.inside.posted.items c.place_of.result c.args.cid c.in-None.ensures.found c.place_of.ensures.owner)
