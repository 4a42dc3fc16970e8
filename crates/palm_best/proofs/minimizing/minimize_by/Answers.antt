use Rattle.std.proofs.Common.{Option, is_some, refl, rules, sym, ap, ◌∙◌, subst}
use Rattle.palm_model.specs.Event.{WithdrawsAll}
use Rattle.palm_events.proofs.cited.Reasons.{reasons_right}
use Rattle.palm_engine.specs.Following.{Hearing, OrderFollows}
use Rattle.palm_engine.proofs.cited.Walking.{filters_none}
use Rattle.palm_search.specs.Calls.{SearchView}
use Rattle.palm_search.specs.Following.{GuideFollows, Moment}
use Rattle.palm_search.specs.Machine.{state_of}
use Rattle.palm_search.specs.Search.{own_cids}
use Rattle.palm_search.specs.Turns.{SearchState}
use Rattle.palm_search.proofs.cited.Lending.{broken_on, interrupted_on, runs_then, runs_turned, settled_on}
use Rattle.palm_search.proofs.cited.Results.{on_err}
use Rattle.palm_search.proofs.cited.Running.{interrupted_filters}
use Rattle.palm_search.proofs.cited.Stopping.{order_stops}
use Rattle.palm_best.specs.Breaking.{BreaksOff}
use Rattle.palm_best.specs.Cuts.{is_own}
use Rattle.palm_best.specs.Stopping.BreaksOffBy.{by_last_settling, by_run}
use Rattle.palm_best.proofs.Looping.{whole_by}
use Rattle.palm_best.proofs.cited.Ending.{best_true, broken_at_end, broken_leaves, minimizes_leaves}
use Rattle.palm_best.proofs.minimizing.minimize_by.Given as given
use Rattle.palm_best.proofs.minimizing.minimize_by.Goals as goal

-- the guide's own relations, and the order's
abbrev guiding : (g : given.Over) → Moment → Option g.row.G.Denot → Option g.row.G.Denot → Type 0
guiding g = GuideFollows g.G.Guide.answers g.G.Guide.hears g.G.Guide.state

abbrev ordering : (g : given.Over) → Hearing → Option g.row.O.Denot → Option g.row.O.Denot → Type 0
ordering g = OrderFollows g.O.Order.answers g.O.Order.hears g.O.Order.state

-- memory ran out in the run
pub returns-in_err-best : goal.returns-in_err-best
returns-in_err-best g c =
    let a = c.args.machine.now in
    let e = c.run-best.new.machine in
    let n = c.withdraw_all.new.machine in
    let guided = is_some a.guide.now in
    let ordered = is_some a.order.now in
    let run = c.run-best.ensures in
    let close = c.withdraw_all.ensures in
    let turns = e.search.now.journal in
    let result = c.from_residual.result in
    let broken : BreaksOff guided ordered c.args.target c.args.budget a.engine.now.state turns n.engine.now.state = record {
      cut = e.engine.now.state;
      is = c.in_err-best.ensures.err;
      middle = n.engine.now.state;
      withdraws = close.withdraws;
      filters = filters_none n.engine.now.state;
    } in
    record {
      ok = search rules;
      holds = search rules;
      err = on_err _ result (rw close.journal broken);
      stopped = on_err _ result (rw (close.journal, close.guide, close.keeps.order) (by_run e.engine.now.state c.in_err-best.ensures.stopped close.withdraws));
      gives = record {
        leaves = broken_leaves reasons_right guided ordered c.args.target c.args.budget a.engine.now.state turns n.engine.now.state n.search.now result c.requires.none run.ran.before broken close.valid close.decisions (search rules);
        on = runs_turned run.ran.on close.keeps;
      };
    }

-- memory ran out in the last settling
pub returns-in_err-settle : goal.returns-in_err-settle
returns-in_err-settle g c =
    let a = c.args.machine.now in
    let e = c.run-best.new.machine in
    let n = c.withdraw_all.new.machine in
    let t = c.settle.new.self in
    let guided = is_some a.guide.now in
    let ordered = is_some a.order.now in
    let run = c.run-best.ensures in
    let close = c.withdraw_all.ensures in
    let settle = c.settle.ensures in
    let turns = e.search.now.journal in
    let result = c.from_residual-in_err-settle.result in
    let has = c.in_ok-best.ensures.ok in
    let all = subst (λ (z : SearchState). WithdrawsAll z.engine (own_cids is_own z.engine.active) n.engine.now.state) (sym has.search) close.withdraws in
    let cut = interrupted_on (is_some e.order.now) e n t refl close.keeps c.in_err-settle.ensures.err in
    let broken = broken_at_end guided ordered c.args.target c.args.budget a.engine.now.state turns c.in_ok-best.best has.state n.engine.now.state t.engine.now.state has.by.run all
    (interrupted_filters (is_some e.order.now) n.engine.now t.engine.now cut) in
    record {
      ok = search rules;
      holds = search rules;
      err = on_err _ result (rw (settle.search, close.journal) broken);
      stopped = on_err _ result (rw (settle.search, close.journal, settle.guide, close.guide) (by_last_settling has.state c.in_ok-best.best n.engine.now.state e.order.now has.by all
          (order_stops e.order.now t.order.now n.engine.now t.engine.now (broken_on e n t close.keeps c.in_err-settle.ensures.err))));
      gives = record {
        leaves = broken_leaves reasons_right guided ordered c.args.target c.args.budget a.engine.now.state turns t.engine.now.state t.search.now result c.requires.none run.ran.before broken settle.valid
            (ap (λ (v : SearchView). v.decisions) settle.search ∙ close.decisions) (search rules);
        on = runs_then run.ran.on close.keeps settle.runs;
      };
    }

-- an answer
pub returns : goal.returns
returns g c =
    let a = c.args.machine.now in
    let e = c.run-best.new.machine in
    let n = c.withdraw_all.new.machine in
    let t = c.settle.new.self in
    let guided = is_some a.guide.now in
    let ordered = is_some a.order.now in
    let best = c.in_ok-best.best in
    let run = c.run-best.ensures in
    let close = c.withdraw_all.ensures in
    let settle = c.settle.ensures in
    let turns = e.search.now.journal in
    let has = c.in_ok-best.ensures.ok in
    let settled = settled_on (ordering g) ordered c.in_ok-settle.field-0 e n t run.ran.on.lent.order close.keeps c.in_ok-settle.ensures.ok in
    let by = whole_by (guiding g) (ordering g) a.guide.now e.guide.now a.order.now e.order.now t.order.now c.args.target c.args.budget a.engine.now.state turns best (state_of e)
    c.in_ok-settle.field-0 n.engine.now t.engine.now has close.withdraws settled in
    record {
      ok = rw (settle.search, close.journal, settle.guide, close.guide) by;
      holds = best_true reasons_right guided ordered c.args.target c.args.budget a.engine.now.state turns best has.state c.requires.none run.ran.before has.by.run;
      err = tt;
      stopped = tt;
      gives = record {
        leaves = minimizes_leaves reasons_right guided ordered c.args.target c.args.budget a.engine.now.state turns best t.engine.now.state t.search.now c.requires.none run.ran.before by.minimizes settle.valid
            (ap (λ (v : SearchView). v.decisions) settle.search ∙ close.decisions);
        on = runs_then run.ran.on close.keeps settle.runs;
      };
    }
