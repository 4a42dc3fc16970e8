use Rattle.palm_domain.proofs.Standing.{after_standing}
use Rattle.palm_domain.proofs.places.place_after.Goals as goal

pub returns-in-Some : goal.returns-in-Some
returns-in-Some c = after_standing c.args.values.now c.requires c.args.value c.in-Some.place c.in-Some.ensures
