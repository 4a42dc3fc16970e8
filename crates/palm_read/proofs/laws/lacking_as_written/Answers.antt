use Rattle.palm_read.proofs.Refusals.{empty_set, in_zeros, set_empty, term_names, zeros_in}
use Rattle.palm_read.proofs.laws.lacking_as_written.Goals as goal

pub returns-clause-set : goal.returns-clause-set
returns-clause-set c = λ values. (empty_set values, set_empty values)

pub returns-clause-factors : goal.returns-clause-factors
returns-clause-factors c = λ terms. (zeros_in terms, in_zeros terms)

pub returns-clause-names : goal.returns-clause-names
returns-clause-names c = λ terms. term_names terms
