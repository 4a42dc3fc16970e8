use Rattle.proof_run.proofs.cited.Accepting.{proofs_are_accepted}
use Rattle.proof_run.proofs.laws.proofs_are_accepted.Goals as goal

pub returns : goal.returns
returns c = λ guided ordered budget book s turns users t text is valid initial active scoped few proves. proofs_are_accepted guided ordered budget book s turns users t text is valid initial active scoped few proves
