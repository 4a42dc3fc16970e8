use Rattle.palm_read.proofs.DomainValues.{range_has}
use Rattle.palm_read.proofs.laws.range_of_all_between.Goals as goal

pub returns : goal.returns
returns c = range_has
