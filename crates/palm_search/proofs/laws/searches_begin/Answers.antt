use Rattle.palm_search.proofs.cited.Keeping.{begins}
use Rattle.palm_search.proofs.laws.searches_begin.Goals as goal

pub returns : goal.returns
returns c = λ s valid users. begins s valid users
