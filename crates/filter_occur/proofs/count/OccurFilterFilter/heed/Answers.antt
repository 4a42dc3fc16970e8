use Rattle.std.proofs.Common.{arith}
use Rattle.filter_occur.proofs.Heeds.{target_answers}
use Rattle.filter_occur.proofs.count.OccurFilterFilter.heed.Goals as goal

pub returns-else-place-len : goal.returns-else-place-len
returns-else-place-len c =
    target_answers c.self.inside.rule c.args.self.now c.self.view_is c.self.invariant.1.0 c.self.invariant.1.1 c.args.place c.target_heed.result
    (omega (arith, c.if-place-len.false, c.len.ensures)) c.target_heed.ensures
