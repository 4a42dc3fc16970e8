use Rattle.std.proofs.Common.{Contains}
use Rattle.proof_text.proofs.Steps.{right_lacks}
use Rattle.proof_text.proofs.laws.right_steps_hold.Goals as goal

pub returns : goal.returns
returns c = λ book given cs proved pair by d inside closed fits lacks backed right has. right_lacks book given (Contains cs) proved pair by d inside closed fits lacks backed right has
