use Rattle.palm_repair.proofs.Learning.{IsPosting}
use Rattle.palm_repair.proofs.learned.Learned.post.Given as goal

abbrev pub invariant-loop-index : goal.invariant-loop-index
invariant-loop-index g l = IsPosting l.search.decisions l.fn.engine l.fn.self l.index l.engine l.self
