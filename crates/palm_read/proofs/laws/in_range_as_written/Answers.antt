use Rattle.palm_read.proofs.Ranges.{numbers_in, numbers_within, outside_not_in, outside_where_not_in}
use Rattle.palm_read.proofs.laws.in_range_as_written.Goals as goal

pub returns-clause-within : goal.returns-clause-within
returns-clause-within c = λ form. (numbers_within form, numbers_in form)

pub returns-clause-outside : goal.returns-clause-outside
returns-clause-outside c = λ form. (outside_where_not_in form, outside_not_in form)
