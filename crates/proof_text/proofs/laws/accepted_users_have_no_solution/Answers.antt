use Rattle.proof_text.proofs.cited.Accepted.{accepted_unsolved}
use Rattle.proof_text.proofs.laws.accepted_users_have_no_solution.Goals as goal

pub returns : goal.returns
returns c = λ bytes book users b is solution. accepted_unsolved bytes book users b is solution
