use Rattle.std.proofs.Common.{Contains}
use Rattle.palm_model.proofs.cited.Closing.{closed_by_member, closed_by_all}
use Rattle.palm_laws.proofs.closed.closed_domains_are_closed_by_each.Goals as goal

pub returns : goal.returns
returns c = λ cs d. (closed_by_member (Contains cs) d, closed_by_all (Contains cs) d)
