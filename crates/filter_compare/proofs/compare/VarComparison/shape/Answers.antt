use Rattle.filter_compare.proofs.Shapes.{order_of, order_convex, left_apart, right_apart, left_offset, right_offset}
use Rattle.filter_compare.proofs.compare.VarComparison.shape.Goals as goal

pub returns-in-Ne : goal.returns-in-Ne
returns-in-Ne c x at =
    let formed = c.requires.formed.1 in
    left_apart c.args.self.now formed.distinct c.args.place x _ c.if-place-eq0.true at c.in-Ne.is (left_offset c.args.self.now.offset formed.shaped)

pub returns-in-Ne-2 : goal.returns-in-Ne-2
returns-in-Ne-2 c x at =
    let formed = c.requires.formed.1 in
    right_apart c.args.self.now formed.distinct c.args.place x _ c.if-place-eq0.false at c.in-Ne-2.is (right_offset c.args.self.now.offset formed.shaped)

pub returns-in-Lt : goal.returns-in-Lt
returns-in-Lt c x at = order_convex c.args.self.now c.requires.formed.1.distinct c.args.place x at (order_of c.args.self.now.op c.in-Lt.is)
