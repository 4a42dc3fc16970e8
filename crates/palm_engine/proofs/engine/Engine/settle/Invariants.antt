use Rattle.std.proofs.Common.{◌≡◌, is_some}
use Rattle.palm_engine.specs.Following.{OrderFollows}
use Rattle.palm_engine.specs.Kept.{state_of}
use Rattle.palm_engine.specs.Posted.{actives_of}
use Rattle.palm_engine.specs.Work.{effort}
use Rattle.palm_engine.proofs.Running.{HasRunBy}
use Rattle.palm_engine.proofs.engine.Engine.settle.Given as goal

abbrev pub invariant-loop-taken : goal.invariant-loop-taken
invariant-loop-taken g l = record {
  by : HasRunBy (OrderFollows g.O.Order.answers g.O.Order.hears g.O.Order.state) l.limit (actives_of g.F.Filter.meaning l.self-inside.posted.items) l.initial.self-inside.filtering l.self-inside.filtering l.self-inside.revisions
      l.fn.steps l.steps l.fn.order l.order;
  stays : is_some l.order ≡ is_some l.fn.order;
  same : l.self-inside.posted ≡ l.initial.self-inside.posted;
}

abbrev pub decreases-loop-taken : goal.decreases-loop-taken
decreases-loop-taken g l = effort (state_of l.self-inside.filtering (actives_of g.F.Filter.meaning l.self-inside.posted.items))
