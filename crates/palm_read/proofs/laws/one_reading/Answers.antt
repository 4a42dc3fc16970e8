use Rattle.palm_read.proofs.cited.Parsing.{one_reading}
use Rattle.palm_read.proofs.laws.one_reading.Goals as goal

pub returns : goal.returns
returns c = one_reading
