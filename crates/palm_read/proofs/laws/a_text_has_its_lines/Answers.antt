use Rattle.palm_read.proofs.cited.Cutting.{has_lines, lines_once}
use Rattle.palm_read.proofs.laws.a_text_has_its_lines.Goals as goal

pub returns-clause-some : goal.returns-clause-some
returns-clause-some c = λ text. has_lines text

pub returns-clause-once : goal.returns-clause-once
returns-clause-once c = λ text a b p q. lines_once text a b p q
