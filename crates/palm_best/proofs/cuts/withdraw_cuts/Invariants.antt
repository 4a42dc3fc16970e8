use Rattle.std.proofs.Common.{◌≤◌}
use Rattle.palm_model.specs.State.{IsValid}
use Rattle.palm_engine.specs.Engine.{KeepsCounts}
use Rattle.palm_search.specs.Calls.{LetsGo}
use Rattle.palm_best.specs.Cuts.{is_own}
use Rattle.palm_best.specs.Improving.{HasCuts}
use Rattle.palm_best.specs.declared.limits.TheConstants.{MOST_CUTS}
use Rattle.palm_best.proofs.cuts.withdraw_cuts.Given as goal

abbrev pub invariant-loop-left : goal.invariant-loop-left
invariant-loop-left l = (l.left ≤ MOST_CUTS) × HasCuts l.left l.engine.state × LetsGo is_own l.fn.engine.state l.engine.state × IsValid l.engine.state × KeepsCounts l.fn.engine l.engine

abbrev pub decreases-loop-left : goal.decreases-loop-left
decreases-loop-left l = l.left
