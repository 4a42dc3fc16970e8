use Rattle.std.proofs.Common.{◌-◌, length}
use Rattle.palm_engine.specs.Following.{OrderFollows}
use Rattle.palm_search.specs.Following.{GuideFollows}
use Rattle.palm_search.specs.Machine.{RunsOn}
use Rattle.proof_write.proofs.Running.{IsProving}
use Rattle.proof_write.proofs.proving.run.Given as goal

abbrev pub invariant-loop-notes : goal.invariant-loop-notes
invariant-loop-notes g l =
    let a = l.fn.machine in
    let m = l.machine in
    record {
      proving : IsProving (GuideFollows g.G.Guide.answers g.G.Guide.hears g.G.Guide.state) (OrderFollows g.O.Order.answers g.O.Order.hears g.O.Order.state) a.guide.now m.guide.now a.order.now m.order.now
          l.budget l.book a.engine.now.state m.engine.now.state m.search.now l.notes.numbers (g.K.Sink.state l.fn.out) (g.K.Sink.state l.out);
      runs : RunsOn a m;
    }

abbrev pub decreases-loop-notes : goal.decreases-loop-notes
decreases-loop-notes g l = l.budget - length l.machine.search.now.journal
