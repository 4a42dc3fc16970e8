use Rattle.std.proofs.Common.{arith}
use Rattle.palm_domain.proofs.MarkPlaces.{is_marked-words_without_here, is_marked-words_without_other}
use Rattle.palm_domain.proofs.marks.Marks.clear.Goals as goal

pub returns-clause-here : goal.returns-clause-here
returns-clause-here c = is_marked-words_without_here c.args.self.now.words c.args.place (omega arith)

pub returns-clause-others : goal.returns-clause-others
returns-clause-others c k apart = is_marked-words_without_other c.args.self.now.words c.args.place k (omega arith) apart
