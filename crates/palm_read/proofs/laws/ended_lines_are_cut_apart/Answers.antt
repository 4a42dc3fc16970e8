use Rattle.palm_read.proofs.cited.Cutting.{ended_lines}
use Rattle.palm_read.proofs.laws.ended_lines_are_cut_apart.Goals as goal

pub returns : goal.returns
returns c = λ lines plain. ended_lines lines plain
