use Rattle.palm_events.proofs.cited.Outcomes.{explanation_listed}
use Rattle.palm_events.proofs.laws.logged.explanations_are_lists.Goals as goal

pub returns : goal.returns
returns c = λ s r valid m. explanation_listed s valid r m
