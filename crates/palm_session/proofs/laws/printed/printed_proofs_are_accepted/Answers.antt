use Rattle.palm_session.proofs.Searched.{told_accepted}
use Rattle.palm_session.proofs.laws.printed.printed_proofs_are_accepted.Goals as goal

pub returns : goal.returns
returns c = λ s t budget reply is scoped few a. told_accepted s budget few is scoped reply t a
