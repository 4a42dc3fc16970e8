use Rattle.std.proofs.Common.{◌-◌, length}
use Rattle.palm_engine.specs.Following.{OrderFollows}
use Rattle.palm_search.specs.Following.{GuideFollows}
use Rattle.palm_search.specs.Machine.{RunsOn}
use Rattle.palm_repair.proofs.Following.{IsRunningBy}
use Rattle.palm_repair.proofs.whole.run.Given as goal

abbrev pub invariant-loop-learned : goal.invariant-loop-learned
invariant-loop-learned g l =
    let a = l.fn.machine in
    let m = l.machine in
    record {
      by : IsRunningBy (GuideFollows g.G.Guide.answers g.G.Guide.hears g.G.Guide.state) (OrderFollows g.O.Order.answers g.O.Order.hears g.O.Order.state) a.guide.now m.guide.now a.order.now m.order.now
          l.tabu l.budget a.engine.now.state m.engine.now.state m.search.now l.learned;
      runs : RunsOn a m;
    }

abbrev pub decreases-loop-learned : goal.decreases-loop-learned
decreases-loop-learned g l = l.budget - length l.machine.search.now.journal
