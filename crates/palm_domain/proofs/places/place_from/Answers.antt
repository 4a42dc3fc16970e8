use Rattle.palm_domain.proofs.Standing.{from_standing}
use Rattle.palm_domain.proofs.places.place_from.Goals as goal

pub returns-in-Some : goal.returns-in-Some
returns-in-Some c = from_standing c.args.values.now c.requires c.args.value c.in-Some.place c.in-Some.ensures
