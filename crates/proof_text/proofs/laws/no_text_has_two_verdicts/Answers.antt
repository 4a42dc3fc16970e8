use Rattle.proof_text.proofs.cited.Unique.{one_verdict}
use Rattle.proof_text.proofs.laws.no_text_has_two_verdicts.Goals as goal

pub returns : goal.returns
returns c = λ bytes a b p q. one_verdict bytes a b p q
