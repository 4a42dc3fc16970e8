use Rattle.palm_session.proofs.Places.{told_there, beyond_absent}
use Rattle.palm_session.proofs.objects.Objects.has.Goals as goal

pub returns-in-Some : goal.returns-in-Some
returns-in-Some g c =
    let h = rw c.deref.ensures.value at c.in-Some.ensures.lookup in
    told_there c.self.inside.places.items c.self.inside.chosen c.args.self.now c.self.view_is c.args.number c.in-Some.object.now c.is_some.result h.3.0 h.1 c.is_some.ensures

pub returns-in-None : goal.returns-in-None
returns-in-None g c =
    let h = rw c.deref.ensures.value at c.in-None.ensures.lookup in
    beyond_absent c.self.inside.places.items c.self.inside.chosen c.args.self.now c.self.view_is c.args.number h.3
