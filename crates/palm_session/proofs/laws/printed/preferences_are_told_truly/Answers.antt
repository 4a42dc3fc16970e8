use Rattle.palm_session.proofs.Preferring.{told_preferred}
use Rattle.palm_session.proofs.laws.printed.preferences_are_told_truly.Goals as goal

pub returns : goal.returns
returns c = λ s t reply is accepts. told_preferred s reply t is accepts
