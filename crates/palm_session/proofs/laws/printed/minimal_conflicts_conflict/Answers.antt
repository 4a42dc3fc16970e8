use Rattle.palm_session.proofs.Least.{told_minimal_conflict}
use Rattle.palm_session.proofs.laws.printed.minimal_conflicts_conflict.Goals as goal

pub returns : goal.returns
returns c = λ s t reply accepts. told_minimal_conflict s reply t accepts
