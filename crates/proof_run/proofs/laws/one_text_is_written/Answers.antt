use Rattle.proof_run.proofs.cited.Same.{proof_same}
use Rattle.proof_run.proofs.laws.one_text_is_written.Goals as goal

pub returns : goal.returns
returns c = λ budget book s turns others end other t u text reply valid users one two. proof_same budget book s turns others end other t u text reply valid users one two
