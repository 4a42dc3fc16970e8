use Rattle.palm_read.proofs.DomainValues.{set_ascends, set_has}
use Rattle.palm_read.proofs.laws.set_of_what_is_written.Goals as goal

pub returns-clause-ascends : goal.returns-clause-ascends
returns-clause-ascends c = set_ascends

pub returns-clause-same : goal.returns-clause-same
returns-clause-same c = set_has
