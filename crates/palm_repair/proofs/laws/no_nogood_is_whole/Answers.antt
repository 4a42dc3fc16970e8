use Rattle.palm_events.proofs.cited.Reasons.{reasons_right}
use Rattle.palm_repair.proofs.Blocking.{posting_posted, takes_posted, starts_at_turn, turns_at_turn}
use Rattle.palm_repair.proofs.laws.no_nogood_is_whole.Goals as goal

pub returns : goal.returns
returns c = record {
  posting = λ s t posts none. posting_posted s t posts none;
  turns = λ guided tabu s t turn takes at. takes_posted guided tabu s turn t takes at.repairing at.posted at.still;
  begins = λ ordered s t valid users settles. starts_at_turn reasons_right ordered s t valid users settles;
  settled = λ guided ordered tabu s t turns run at. turns_at_turn reasons_right guided ordered tabu s turns t run at;
}
