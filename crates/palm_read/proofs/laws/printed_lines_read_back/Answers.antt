use Rattle.palm_read.proofs.cited.ReadBack.{read_back}
use Rattle.palm_read.proofs.laws.printed_lines_read_back.Goals as goal

pub returns : goal.returns
returns c = read_back
