use Rattle.palm_cert.proofs.cited.Reached.{claim_reached}
use Rattle.palm_cert.proofs.laws.claims_are_reached.Goals as goal

pub returns : goal.returns
returns c = claim_reached
