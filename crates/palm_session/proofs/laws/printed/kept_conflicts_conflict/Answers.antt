use Rattle.palm_session.proofs.Telling.{told_conflict}
use Rattle.palm_session.proofs.laws.printed.kept_conflicts_conflict.Goals as goal

pub returns : goal.returns
returns c = λ s t reply is accepts. told_conflict s reply t is accepts
