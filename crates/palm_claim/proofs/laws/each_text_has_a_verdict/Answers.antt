use Rattle.palm_claim.proofs.Known.{each_judged}
use Rattle.palm_claim.proofs.laws.each_text_has_a_verdict.Goals as goal

pub returns : goal.returns
returns c = λ bytes. each_judged bytes
