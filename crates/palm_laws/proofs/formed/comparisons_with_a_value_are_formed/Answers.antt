use Rattle.palm_model.proofs.cited.Formed.{choice_formed}
use Rattle.palm_laws.proofs.formed.comparisons_with_a_value_are_formed.Goals as goal

pub returns : goal.returns
returns c = choice_formed
