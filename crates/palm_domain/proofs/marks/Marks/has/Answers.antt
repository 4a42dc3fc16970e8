use Rattle.palm_domain.proofs.MarkPlaces.{is_marked_test}
use Rattle.palm_domain.proofs.marks.Marks.has.Goals as goal

pub returns : goal.returns
returns c = is_marked_test c.args.self.now.words c.args.place
