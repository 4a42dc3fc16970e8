use Rattle.palm_session.proofs.Places.{may_choose, chosen_objects}
use Rattle.palm_session.proofs.objects.Objects.choose.Goals as goal

pub invariant_of-self : goal.invariant_of-self
invariant_of-self g c = may_choose c.self.inside.places.items c.self.inside.chosen c.args.self.now c.self.invariant c.self.view_is c.args.number c.requires

pub returns : goal.returns
returns g c = chosen_objects c.self.inside.places.items c.self.inside.chosen c.args.self.now c.self.invariant c.self.view_is c.args.number c.requires
