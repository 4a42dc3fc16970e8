use Rattle.palm_session.proofs.Least.{told_minimal}
use Rattle.palm_session.proofs.laws.printed.minimal_explanations_explain.Goals as goal

pub returns : goal.returns
returns c = λ s t name reply value request asks accepts. told_minimal s name value request reply t asks accepts
