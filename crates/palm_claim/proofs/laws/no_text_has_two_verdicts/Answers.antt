use Rattle.palm_claim.proofs.cited.Unique.{one_verdict}
use Rattle.palm_claim.proofs.laws.no_text_has_two_verdicts.Goals as goal

pub returns : goal.returns
returns c = λ bytes a b p q. one_verdict bytes a b p q
