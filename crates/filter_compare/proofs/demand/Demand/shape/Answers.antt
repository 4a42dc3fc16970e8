use Rattle.filter_compare.proofs.Shapes.{order_of, const_convex}
use Rattle.filter_compare.proofs.demand.Demand.shape.Goals as goal

pub returns-in-Lt : goal.returns-in-Lt
returns-in-Lt c = const_convex c.args.self.now (order_of c.args.self.now.op c.in-Lt.is)
