use Rattle.palm_session.proofs.Heard.{settles_by}
use Rattle.palm_session.proofs.Places.{chosen_first, chosen_last, settled_objects}
use Rattle.palm_session.proofs.objects.settle_by.Goals as goal

pub returns-clause-orders : goal.returns-clause-orders
returns-clause-orders g c =
    settled_objects c.orders.inside.places.items c.orders.inside.chosen c.args.orders.now c.orders.invariant c.orders.view_is c.index_mut.result.now c.settle.new.order c.index_mut.ensures.value c.settle.ensures.stays

pub returns-clause-ok : goal.returns-clause-ok
returns-clause-ok g c =
    let o = c.orders.inside in
    let w = c.settle.new.order in
    settles_by _ c.args.limit c.index_mut.result.now w _ _ _ _ c.settle.result
    (chosen_first o.places.items o.chosen c.args.orders.now c.orders.invariant c.orders.view_is c.index_mut.result.now c.index_mut.ensures.value)
    (chosen_last o.places.items o.chosen c.args.orders.now c.orders.invariant c.orders.view_is w) c.settle.ensures.ok
