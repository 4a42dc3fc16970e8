use Rattle.palm_events.proofs.cited.Reasons.{reasons_right}
use Rattle.palm_search.proofs.cited.Leaving.{run_found}
use Rattle.palm_repair.proofs.cited.Ending.{repair_ended}
use Rattle.palm_repair.proofs.laws.found_values_are_a_solution.Goals as goal

pub returns : goal.returns
returns c = λ guided ordered tabu budget dropped s t turns values users valid repairs.
    run_found s repairs.last.search values (repair_ended reasons_right guided ordered tabu budget s turns _ dropped repairs.last users valid repairs.run) repairs.run.ends
