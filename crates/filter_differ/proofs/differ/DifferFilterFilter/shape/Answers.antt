use Rattle.filter_differ.proofs.Shapes.{differ_apart}
use Rattle.filter_differ.proofs.differ.DifferFilterFilter.shape.Goals as goal

pub returns : goal.returns
returns c x at = differ_apart c.self.inside.vars c.args.self.now x c.self.view_is c.self.invariant.1.distinct
