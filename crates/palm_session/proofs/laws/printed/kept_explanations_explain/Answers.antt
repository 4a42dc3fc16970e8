use Rattle.palm_session.proofs.Telling.{told_why}
use Rattle.palm_session.proofs.laws.printed.kept_explanations_explain.Goals as goal

pub returns : goal.returns
returns c = λ s t name reply value request is admitted accepts. told_why s name value request reply t is admitted accepts
