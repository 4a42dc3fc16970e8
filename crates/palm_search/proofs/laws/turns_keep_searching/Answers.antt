use Rattle.palm_search.proofs.cited.Keeping.{takes_keep}
use Rattle.palm_search.proofs.laws.turns_keep_searching.Goals as goal

pub returns : goal.returns
returns c = λ guided s t turn takes searching. takes_keep guided s turn t takes searching
