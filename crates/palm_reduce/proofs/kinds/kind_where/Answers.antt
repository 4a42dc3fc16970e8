use Rattle.palm_reduce.proofs.Keeping.{lent_is}
use Rattle.palm_reduce.proofs.kinds.kind_where.Goals as goal

pub returns : goal.returns
returns c on con m = lent_is c.args.lender.now.state.active c.args.number c.filter.result c.filter.ensures.filter c.filter.ensures.only con m
