use Rattle.proof_run.proofs.cited.GoingOn.{proofs_go_on}
use Rattle.proof_run.proofs.laws.proofs_go_on.Goals as goal

pub returns : goal.returns
returns c = λ guided ordered budget book s turns text valid users so_far. proofs_go_on guided ordered budget book s turns text valid users so_far
