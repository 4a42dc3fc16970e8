use Rattle.palm_events.proofs.cited.Reasons.{reasons_right}
use Rattle.palm_search.proofs.cited.Leaving.{run_ended, run_unsolved, run_users}
use Rattle.palm_search.proofs.laws.users_of_no_solution_have_none.Goals as goal

pub returns : goal.returns
returns c = record {
  unsolved = λ guided ordered budget s t turns users only valid searches a solution.
      run_unsolved s searches.last users (run_ended reasons_right guided ordered budget s turns _ searches.last only valid searches.run) searches.run.ends a solution;
  active = λ guided ordered budget s t turns users only valid searches cid m.
      run_users s searches.last users (run_ended reasons_right guided ordered budget s turns _ searches.last only valid searches.run) searches.run.ends cid m;
}
