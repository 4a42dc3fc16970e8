use Rattle.palm_events.proofs.cited.Reasons.{reasons_right}
use Rattle.palm_search.proofs.cited.Leaving.{run_ended, run_found}
use Rattle.palm_search.proofs.laws.found_values_are_a_solution.Goals as goal

pub returns : goal.returns
returns c = λ guided ordered budget s t turns values users valid searches.
    run_found s searches.last values (run_ended reasons_right guided ordered budget s turns _ searches.last users valid searches.run) searches.run.ends
