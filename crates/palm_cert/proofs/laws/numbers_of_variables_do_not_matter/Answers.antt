use Rattle.palm_cert.proofs.Moving.{lacks_moved}
use Rattle.palm_cert.proofs.laws.numbers_of_variables_do_not_matter.Goals as goal

pub returns : goal.returns
returns c = lacks_moved
