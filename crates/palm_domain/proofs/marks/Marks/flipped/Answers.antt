use Rattle.std.proofs.Common.{rules}
use Rattle.palm_domain.proofs.MarkPlaces.{is_marked-flipped_words}
use Rattle.palm_domain.proofs.marks.Marks.flipped.Goals as goal

pub returns : goal.returns
returns c k l = is_marked-flipped_words c.args.self.now.words k (search rules) l
