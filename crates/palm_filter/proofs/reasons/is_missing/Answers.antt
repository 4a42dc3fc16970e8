use Rattle.std.proofs.Common.{ap, not}
use Rattle.palm_domain.specs.Rows.{present_values}
use Rattle.palm_filter.proofs.cited.Listed.{listed_told}
use Rattle.palm_filter.proofs.reasons.is_missing.Goals as goal

pub returns : goal.returns
returns c = ap not (listed_told (present_values c.args.store.now c.args.var) c.args.value.now c.contains.result c.contains.ensures)
