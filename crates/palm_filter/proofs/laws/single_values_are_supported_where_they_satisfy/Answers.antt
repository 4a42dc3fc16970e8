use Rattle.palm_filter.proofs.Singles.{satisfies_from_support, support_from_satisfies}
use Rattle.palm_filter.proofs.laws.single_values_are_supported_where_they_satisfy.Goals as goal

pub returns : goal.returns
returns c = λ variables k d a formed single. (satisfies_from_support k d a single formed.some, support_from_satisfies k d a single)
