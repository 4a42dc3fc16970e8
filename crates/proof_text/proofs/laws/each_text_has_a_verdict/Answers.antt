use Rattle.proof_text.proofs.Known.{each_judged}
use Rattle.proof_text.proofs.laws.each_text_has_a_verdict.Goals as goal

pub returns : goal.returns
returns c = λ bytes. each_judged bytes
