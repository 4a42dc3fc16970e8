use Rattle.palm_hub.proofs.Outcomes.{one_behind, outcome_behind}
use Rattle.palm_hub.proofs.laws.each_hub_line_has_one_outcome.Goals as goal

pub returns-clause-some : goal.returns-clause-some
returns-clause-some c = outcome_behind

pub returns-clause-once : goal.returns-clause-once
returns-clause-once c = one_behind
