use Rattle.palm_events.proofs.cited.Outcomes.{conflict_listed, flat_listed}
use Rattle.palm_events.proofs.laws.conflict.conflicts_are_lists.Goals as goal

pub returns : goal.returns
returns c = record {
  kept = λ s x valid. conflict_listed s valid x;
  flat = λ s x valid. flat_listed s valid x;
}
