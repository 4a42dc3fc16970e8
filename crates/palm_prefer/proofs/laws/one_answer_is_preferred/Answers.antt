use Rattle.palm_prefer.proofs.cited.Uniqueness.{one_answer}
use Rattle.palm_prefer.proofs.laws.one_answer_is_preferred.Goals as goal

pub returns : goal.returns
returns c = one_answer
