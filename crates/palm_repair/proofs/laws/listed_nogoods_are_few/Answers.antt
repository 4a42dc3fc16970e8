use Rattle.palm_repair.proofs.cited.Existing.{takes_short}
use Rattle.palm_repair.proofs.laws.listed_nogoods_are_few.Goals as goal

pub returns : goal.returns
returns c = λ guided tabu s t turn takes few. takes_short guided tabu s turn t takes few
