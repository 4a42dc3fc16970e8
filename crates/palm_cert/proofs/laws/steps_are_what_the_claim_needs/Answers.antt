use Rattle.palm_cert.proofs.cited.Needed.{needed_step, step_needed}
use Rattle.palm_cert.proofs.laws.steps_are_what_the_claim_needs.Goals as goal

pub returns : goal.returns
returns c = λ log pairs r linked. (step_needed log pairs r, λ h. needed_step log pairs linked r h.0 h.1)
