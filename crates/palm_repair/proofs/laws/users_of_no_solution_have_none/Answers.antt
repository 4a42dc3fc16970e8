use Rattle.palm_events.proofs.cited.Reasons.{reasons_right}
use Rattle.palm_search.proofs.cited.Leaving.{run_unsolved, run_users}
use Rattle.palm_repair.proofs.cited.Ending.{repair_ended}
use Rattle.palm_repair.proofs.laws.users_of_no_solution_have_none.Goals as goal

pub returns : goal.returns
returns c = record {
  unsolved = λ guided ordered tabu budget dropped s t turns users only valid repairs a solution.
      run_unsolved s repairs.last.search users (repair_ended reasons_right guided ordered tabu budget s turns _ dropped repairs.last only valid repairs.run) repairs.run.ends a solution;
  active = λ guided ordered tabu budget dropped s t turns users only valid repairs cid m.
      run_users s repairs.last.search users (repair_ended reasons_right guided ordered tabu budget s turns _ dropped repairs.last only valid repairs.run) repairs.run.ends cid m;
}
