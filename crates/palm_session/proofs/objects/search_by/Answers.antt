use Rattle.std.proofs.Common.{◌≡◌, arith, rules}
use Rattle.palm_session.proofs.Heard.{runs_by}
use Rattle.palm_session.proofs.Places.{chosen_first, chosen_last, chosen_told, settled_objects, settled_places}
use Rattle.palm_session.proofs.objects.search_by.Goals as goal

pub returns-clause-guides : goal.returns-clause-guides
returns-clause-guides g c =
    let guide_is : c.t15-1.given.0 ≡ c.run.new.machine.guide.now = search rules in
    rw guide_is (settled_objects c.guides.inside.places.items c.guides.inside.chosen c.args.guides.now c.guides.invariant c.guides.view_is c.index_mut.result.now c.run.new.machine.guide.now c.index_mut.ensures.value c.run.ensures.runs.lent.guide)

pub returns-clause-orders : goal.returns-clause-orders
returns-clause-orders g c =
    let order_is : c.t18-1.given.0 ≡ c.run.new.machine.order.now = search rules in
    rw order_is (settled_objects c.orders.inside.places.items c.orders.inside.chosen c.args.orders.now c.orders.invariant c.orders.view_is c.index_mut-2.result.now c.run.new.machine.order.now c.index_mut-2.ensures.value c.run.ensures.runs.lent.order)

pub index_mut-requires : goal.index_mut-requires
index_mut-requires g c = omega (arith, c.guides.inside.places.ok, c.guides.invariant.within)

pub index_mut-requires-2 : goal.index_mut-requires-2
index_mut-requires-2 g c = omega (arith, c.orders.inside.places.ok, c.orders.invariant.within)

pub invariant_of-guides : goal.invariant_of-guides
invariant_of-guides g c =
    let guide_is : c.t15-1.given.0 ≡ c.run.new.machine.guide.now = search rules in
    rw guide_is (settled_places c.guides.inside.places.items c.guides.inside.chosen c.args.guides.now c.guides.invariant c.guides.view_is c.index_mut.result.now c.run.new.machine.guide.now c.index_mut.ensures.value c.run.ensures.runs.lent.guide)

pub invariant_of-orders : goal.invariant_of-orders
invariant_of-orders g c =
    let order_is : c.t18-1.given.0 ≡ c.run.new.machine.order.now = search rules in
    rw order_is (settled_places c.orders.inside.places.items c.orders.inside.chosen c.args.orders.now c.orders.invariant c.orders.view_is c.index_mut-2.result.now c.run.new.machine.order.now c.index_mut-2.ensures.value c.run.ensures.runs.lent.order)

pub returns-clause-ok : goal.returns-clause-ok
returns-clause-ok g c =
    let engine_is : c.engine-1.given.0 ≡ c.run.new.machine.engine.now = search rules in
    let search_is : c.search-1.given.0 ≡ c.run.new.machine.search.now = search rules in
    let guide_is : c.t15-1.given.0 ≡ c.run.new.machine.guide.now = search rules in
    let order_is : c.t18-1.given.0 ≡ c.run.new.machine.order.now = search rules in
    let gs = c.guides.inside in
    let os = c.orders.inside in
    let guide = c.run.new.machine.guide.now in
    let order = c.run.new.machine.order.now in
    rw (engine_is, search_is, guide_is, order_is) (runs_by _ _ c.index_mut.result.now guide _ _ c.index_mut-2.result.now order _ _
    (chosen_first gs.places.items gs.chosen c.args.guides.now c.guides.invariant c.guides.view_is c.index_mut.result.now c.index_mut.ensures.value)
    (chosen_last gs.places.items gs.chosen c.args.guides.now c.guides.invariant c.guides.view_is guide)
    (chosen_first os.places.items os.chosen c.args.orders.now c.orders.invariant c.orders.view_is c.index_mut-2.result.now c.index_mut-2.ensures.value)
    (chosen_last os.places.items os.chosen c.args.orders.now c.orders.invariant c.orders.view_is order) c.args.by _ _ _ _ _ _ c.run.result c.run.ensures.ok)

pub returns-clause-front : goal.returns-clause-front
returns-clause-front g c =
    rw (chosen_told c.guides.inside.places.items c.guides.inside.chosen c.args.guides.now c.guides.invariant c.guides.view_is c.index_mut.result.now c.index_mut.ensures.value)
    (rw (chosen_told c.orders.inside.places.items c.orders.inside.chosen c.args.orders.now c.orders.invariant c.orders.view_is c.index_mut-2.result.now c.index_mut-2.ensures.value) c.run.ensures.front)
