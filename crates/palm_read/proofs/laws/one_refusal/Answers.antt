use Rattle.palm_read.proofs.cited.Parsing.{one_refusal}
use Rattle.palm_read.proofs.laws.one_refusal.Goals as goal

pub returns : goal.returns
returns c = one_refusal
