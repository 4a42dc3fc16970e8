use Rattle.filter_compare.proofs.Memberships.{listed_by_places}
use Rattle.filter_compare.proofs.within.Membership.has.Goals as goal

pub returns : goal.returns
returns c = listed_by_places c.args.self.now.values c.args.value.now c.places.result.now c.places.ensures.stands c.places.ensures.every
