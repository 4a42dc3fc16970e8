use Rattle.palm_read.proofs.cited.Parsing.{each_answered}
use Rattle.palm_read.proofs.laws.each_line_answered.Goals as goal

pub returns : goal.returns
returns c = each_answered
