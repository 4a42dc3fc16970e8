use Rattle.palm_claim.proofs.cited.Explained.{accepted_explained, accepted_conflict}
use Rattle.palm_claim.proofs.laws.accepted_claims_are_explained.Goals as goal

pub returns-clause-explained : goal.returns-clause-explained
returns-clause-explained c = λ bytes proved is. accepted_explained bytes proved is

pub returns-clause-conflict : goal.returns-clause-conflict
returns-clause-conflict c = λ bytes proved x is claims. accepted_conflict bytes proved x is claims
