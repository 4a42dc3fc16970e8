use Rattle.palm_model.specs.State.{IsValid}
use Rattle.palm_engine.specs.Engine.{KeepsCounts}
use Rattle.palm_search.specs.Calls.{LetsGo}
use Rattle.palm_search.specs.Kept.{HasDecisions}
use Rattle.palm_search.specs.Search.{of_search}
use Rattle.palm_search.proofs.search.withdraw_decisions.Given as goal

abbrev pub invariant-loop-pair : goal.invariant-loop-pair
invariant-loop-pair g l =
    HasDecisions (record { engine = l.engine.state; decisions = l.decisions.items })
    × LetsGo of_search l.fn.engine.state l.engine.state × IsValid l.engine.state × KeepsCounts l.fn.engine l.engine

abbrev pub decreases-loop-pair : goal.decreases-loop-pair
decreases-loop-pair g l = goal.left-loop-pair g l
