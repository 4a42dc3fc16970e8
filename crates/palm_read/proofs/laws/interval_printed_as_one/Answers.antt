use Rattle.palm_read.proofs.IntervalLemmas.{printed_interval, printed_set}
use Rattle.palm_read.proofs.cited.DomainsWith.{values_with}
use Rattle.palm_read.proofs.laws.interval_printed_as_one.Goals as goal

pub returns-clause-interval : goal.returns-clause-interval
returns-clause-interval c = printed_interval

pub returns-clause-set : goal.returns-clause-set
returns-clause-set c = printed_set

pub returns-clause-same : goal.returns-clause-same
returns-clause-same c = values_with
