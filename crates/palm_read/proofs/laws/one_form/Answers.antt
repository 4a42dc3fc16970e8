use Rattle.palm_read.proofs.cited.LineForms.{one_form}
use Rattle.palm_read.proofs.laws.one_form.Goals as goal

pub returns : goal.returns
returns c = one_form
