use Rattle.palm_session.proofs.Places.{all_objects, all_places, all_in_places}
use Rattle.palm_session.proofs.objects.Objects.new.Goals as goal

pub invariant_of-result : goal.invariant_of-result
invariant_of-result g c =
    let more = c.loop-object.object-iterator.rest in
    all_places c.loop-object.places.items c.args.objects.items
    (all_in_places c.loop-object.places.items more.items c.args.objects.items more.len c.loop-object.invariant c.in-None.ensures.steps.0 more.ok.0)

pub returns : goal.returns
returns g c =
    let more = c.loop-object.object-iterator.rest in
    all_objects c.loop-object.places.items c.args.objects.items
    (all_in_places c.loop-object.places.items more.items c.args.objects.items more.len c.loop-object.invariant c.in-None.ensures.steps.0 more.ok.0)
