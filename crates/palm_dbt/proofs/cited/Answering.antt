-- What an answer holds.
use Rattle.std.proofs.Common.{ℕ, Bool, List}
use Rattle.palm_model.specs.State.{EngineState, IsValid}
use Rattle.palm_events.specs.Reasons.{ReasonsAreRight}
use Rattle.palm_search.specs.declared.ending.SearchEnd.{SearchEnd}
use Rattle.palm_search.specs.declared.ending.SearchEnd.TheVariants.{Found, NoSolution, Spent}
use Rattle.palm_search.specs.declared.turn.Turn.{Turn}
use Rattle.palm_search.specs.Kept.{HasOnlyUsers}
use Rattle.palm_search.specs.Search.{Searches}
use Rattle.palm_search.proofs.cited.Leaving.{run_ended, run_found, run_unsolved, run_users}
use Rattle.palm_search.proofs.cited.Measuring.{run_spent}
use Rattle.palm_dbt.specs.Answers.{IsTrueOf}

pub answer_true : ReasonsAreRight → (guided ordered : Bool) (budget : ℕ) (s : EngineState) (turns : List Turn) (t : EngineState) (answer : SearchEnd) → HasOnlyUsers s → IsValid s → Searches guided ordered budget s turns answer t → IsTrueOf s budget answer
answer_true right guided ordered budget s turns t (Found values) users valid searches =
    run_found s searches.last values (run_ended right guided ordered budget s turns _ searches.last users valid searches.run) searches.run.ends
answer_true right guided ordered budget s turns t (NoSolution cids) users valid searches =
    let ended = run_ended right guided ordered budget s turns _ searches.last users valid searches.run in
    record { active = run_users s searches.last cids ended searches.run.ends; none = run_unsolved s searches.last cids ended searches.run.ends }
answer_true right guided ordered budget s turns t (Spent spent) users valid searches = run_spent right guided ordered budget spent s turns searches.last valid users searches.run
