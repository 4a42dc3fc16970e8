use Rattle.palm_domain.proofs.MarkPlaces.{is_marked-of_first}
use Rattle.palm_domain.proofs.marks.Marks.of_first.Goals as goal

pub returns : goal.returns
returns c k = is_marked-of_first _ _ _ _ c.args.count c.requires (cc) (cc) (cc) (cc) k
