use Rattle.std.proofs.Common.{length}
use Rattle.palm_model.specs.State.{IsValid}
use Rattle.palm_engine.specs.Engine.{KeepsCounts}
use Rattle.palm_search.specs.Calls.{LetsGo}
use Rattle.palm_search.specs.Search.{of_search}
use Rattle.palm_search.proofs.search.withdraw_negations.Given as goal

abbrev pub invariant-loop-pair : goal.invariant-loop-pair
invariant-loop-pair g l = LetsGo of_search l.fn.engine.state l.engine.state × IsValid l.engine.state × KeepsCounts l.fn.engine l.engine

abbrev pub decreases-loop-pair : goal.decreases-loop-pair
decreases-loop-pair g l = length l.engine.state.active
