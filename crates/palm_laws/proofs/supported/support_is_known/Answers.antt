use Rattle.palm_model.proofs.cited.Trials.{support_known}
use Rattle.palm_laws.proofs.supported.support_is_known.Goals as goal

pub returns : goal.returns
returns c = λ d p x v. support_known d p x v
