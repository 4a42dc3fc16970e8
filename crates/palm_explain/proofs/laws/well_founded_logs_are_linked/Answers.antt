use Rattle.std.proofs.Common.{[]}
use Rattle.palm_explain.proofs.Linked.{right_linked}
use Rattle.palm_explain.proofs.laws.well_founded_logs_are_linked.Goals as goal

pub returns : goal.returns
returns c initial active log founded = right_linked initial active [] log founded
