use Rattle.std.proofs.Common.{arith}
use Rattle.filter_occur.proofs.Shapes.{counted_answers, target_answers}
use Rattle.filter_occur.proofs.count.OccurFilterFilter.shape.Goals as goal

pub returns-then-place-len : goal.returns-then-place-len
returns-then-place-len c =
    counted_answers c.self.inside.rule c.args.self.now c.self.view_is c.self.invariant.1.0 c.self.invariant.1.1 c.args.place
    (omega (arith, c.if-place-len.true, c.len.ensures))

pub returns-else-place-len : goal.returns-else-place-len
returns-else-place-len c =
    target_answers c.self.inside.rule c.args.self.now c.self.view_is c.self.invariant.1.0 c.self.invariant.1.1 c.args.place c.target_shape.result
    (omega (arith, c.if-place-len.false, c.len.ensures)) c.target_shape.ensures
