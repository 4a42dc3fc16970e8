use Rattle.std.proofs.Common.{is_some, length}
use Rattle.palm_engine.specs.Following.{OrderFollows}
use Rattle.palm_search.specs.Following.{GuideFollows}
use Rattle.palm_search.specs.Machine.{RunsOn}
use Rattle.palm_best.proofs.Looping.{IsMinimizingBy, left_moves}
use Rattle.palm_best.proofs.minimizing.run.Given as goal

abbrev pub invariant-loop-values : goal.invariant-loop-values
invariant-loop-values g l =
    let a = l.fn.machine in
    let m = l.machine in
    record {
      by : IsMinimizingBy (GuideFollows g.G.Guide.answers g.G.Guide.hears g.G.Guide.state) (OrderFollows g.O.Order.answers g.O.Order.hears g.O.Order.state) (is_some a.guide.now) a.guide.now m.guide.now a.order.now m.order.now
          l.target l.budget a.engine.now.state m.engine.now.state m.search.now l.incumbent;
      runs : RunsOn a m;
    }

abbrev pub decreases-loop-values : goal.decreases-loop-values
decreases-loop-values g l = left_moves l.budget (length l.machine.search.now.journal) l.incumbent.cuts
