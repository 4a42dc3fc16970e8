use Rattle.palm_read.proofs.cited.Parsing.{read_not_refused}
use Rattle.palm_read.proofs.laws.read_or_refused.Goals as goal

pub returns : goal.returns
returns c = read_not_refused
