use Rattle.palm_model.proofs.cited.Closing.{closed_supported, supported_closed}
use Rattle.palm_laws.proofs.closed.closed_domains_are_supported.Goals as goal

pub returns : goal.returns
returns c = λ k d. (closed_supported k d, supported_closed k d)
