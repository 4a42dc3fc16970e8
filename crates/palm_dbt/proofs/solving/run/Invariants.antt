use Rattle.std.proofs.Common.{◌-◌, is_some, length}
use Rattle.palm_engine.specs.Following.{OrderFollows}
use Rattle.palm_search.specs.Following.{GuideFollows}
use Rattle.palm_search.specs.Machine.{RunsOn}
use Rattle.palm_search.proofs.cited.Following.{IsRunningBy}
use Rattle.palm_dbt.proofs.solving.run.Given as goal

abbrev pub invariant-loop-end : goal.invariant-loop-end
invariant-loop-end g l =
    let a = l.fn.machine in
    let m = l.machine in
    record {
      by : IsRunningBy (GuideFollows g.G.Guide.answers g.G.Guide.hears g.G.Guide.state) (OrderFollows g.O.Order.answers g.O.Order.hears g.O.Order.state) (is_some a.guide.now) a.guide.now m.guide.now a.order.now m.order.now l.budget
          a.engine.now.state m.engine.now.state m.search.now;
      runs : RunsOn a m;
    }

abbrev pub decreases-loop-end : goal.decreases-loop-end
decreases-loop-end g l = l.budget - length l.machine.search.now.journal
