use Rattle.palm_claim.proofs.cited.Explained.{accepted_holds}
use Rattle.palm_claim.proofs.laws.accepted_claims_hold_of_the_greatest_domains.Goals as goal

pub returns : goal.returns
returns c = λ bytes proved d is greatest. accepted_holds bytes proved d is greatest
