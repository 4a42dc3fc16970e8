use Rattle.palm_events.proofs.cited.Reasons.{reasons_right}
use Rattle.palm_events.proofs.cited.Runs.{run_includes_greatest, run_has_greatest}
use Rattle.palm_events.proofs.laws.greatest.runs_reach_the_greatest_domains.Goals as goal

pub returns : goal.returns
returns c = record {
  included = λ initial steps t d ascend run greatest. run_includes_greatest reasons_right initial steps t d ascend run greatest;
  equal = λ initial steps t d ascend run greatest quiet. run_has_greatest reasons_right initial steps t d ascend run greatest quiet;
}
