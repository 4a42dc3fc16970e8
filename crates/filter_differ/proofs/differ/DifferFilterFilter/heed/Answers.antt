use Rattle.filter_differ.proofs.Heeds.{differ_alone}
use Rattle.filter_differ.proofs.differ.DifferFilterFilter.heed.Goals as goal

pub returns : goal.returns
returns c x at = differ_alone c.self.inside.vars c.args.self.now x c.self.view_is c.self.invariant.1.distinct
