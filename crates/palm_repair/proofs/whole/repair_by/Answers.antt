use Rattle.std.proofs.Common.{Option, refl, rules, ap, ◌∙◌, subst}
use Rattle.std.specs.Prelude.{IfOk, OnErr, is_some}
use Rattle.palm_events.proofs.cited.Reasons.{reasons_right}
use Rattle.palm_engine.specs.Following.{Hearing, OrderAnswers, OrderFollows}
use Rattle.palm_engine.proofs.cited.Walking.{filters_none}
use Rattle.palm_search.specs.Calls.{SearchView}
use Rattle.palm_search.specs.Following.{GuideFollows, Moment}
use Rattle.palm_search.specs.Stopping.{GuideStops}
use Rattle.palm_search.proofs.cited.Lending.{broken_on, interrupted_on, runs_then, runs_turned, settled_on}
use Rattle.palm_search.proofs.cited.Results.{on_err}
use Rattle.palm_search.proofs.cited.Running.{interrupted_filters}
use Rattle.palm_search.proofs.cited.Stopping.{order_stops}
use Rattle.palm_repair.specs.Answers.{end_of}
use Rattle.palm_repair.specs.Following.{HasRunBy}
use Rattle.palm_repair.specs.Stopping.{IsCutOffBy}
use Rattle.palm_repair.specs.Stopping.BreaksOffBy.{by_last_settling, by_run}
use Rattle.palm_repair.specs.Turning.{IsCutOff}
use Rattle.palm_repair.proofs.Breaking.{broken_at_end, broken_in_run, broken_leaves, repaired_leaves}
use Rattle.palm_repair.proofs.Following.{repaired_by}
use Rattle.palm_repair.proofs.Running.{answer_true}
use Rattle.palm_repair.proofs.whole.repair_by.Given as given
use Rattle.palm_repair.proofs.whole.repair_by.Goals as goal

-- the guide's own relations, and the order's
abbrev guiding : (g : given.Over) → Moment → Option g.row.G.Denot → Option g.row.G.Denot → Type 0
guiding g = GuideFollows g.G.Guide.answers g.G.Guide.hears g.G.Guide.state

abbrev ordering : (g : given.Over) → Hearing → Option g.row.O.Denot → Option g.row.O.Denot → Type 0
ordering g = OrderFollows g.O.Order.answers g.O.Order.hears g.O.Order.state

-- memory ran out in the run
pub returns-in_err-answer : goal.returns-in_err-answer
returns-in_err-answer g c =
    let a = c.args.machine.now in
    let e = c.run-answer.new.machine in
    let n = c.close.new.self in
    let guided = is_some a.guide.now in
    let ordered = is_some a.order.now in
    let tabu = c.args.tabu in
    let budget = c.args.budget in
    let s = a.engine.now.state in
    let run = c.run-answer.ensures in
    let close = c.close.ensures in
    let turns = e.search.now.journal in
    let result = c.from_residual.result in
    let cut = subst (λ r. OnErr r (IsCutOff guided ordered tabu budget s turns e.engine.now.state)) c.in_err-answer.was run.err in
    let relations = IsCutOffBy (guiding g) (GuideStops g.G.Guide.answers g.G.Guide.hears g.G.Guide.state) (ordering g) (OrderAnswers g.O.Order.answers g.O.Order.state) a.guide.now e.guide.now a.order.now e.order.now tabu budget s turns e.engine.now.state in
    let stopped = subst (λ r. OnErr r relations) c.in_err-answer.was run.stopped in
    let broken = broken_in_run guided ordered tabu budget s turns e.engine.now.state n.engine.now.state n.engine.now.state cut close.withdraws (filters_none n.engine.now.state) in
    record {
      ok = search rules;
      holds = search rules;
      err = on_err _ result (rw close.journal broken);
      stopped = on_err _ result (rw (close.journal, close.guide, close.keeps.order) (by_run e.engine.now.state stopped close.withdraws));
      gives = record {
        leaves = broken_leaves reasons_right guided ordered tabu budget s turns n.engine.now.state n.search.now result c.requires.begins.users run.ran.before broken close.decisions (search rules);
        on = runs_turned run.ran.on close.keeps;
      };
    }

-- memory ran out in the last settling
pub returns-in_err-settle : goal.returns-in_err-settle
returns-in_err-settle g c =
    let a = c.args.machine.now in
    let e = c.run-answer.new.machine in
    let n = c.close.new.self in
    let t = c.settle.new.self in
    let guided = is_some a.guide.now in
    let ordered = is_some a.order.now in
    let tabu = c.args.tabu in
    let budget = c.args.budget in
    let s = a.engine.now.state in
    let run = c.run-answer.ensures in
    let close = c.close.ensures in
    let settle = c.settle.ensures in
    let turns = e.search.now.journal in
    let answer = c.in_ok-answer.answer in
    let result = c.from_residual-in_err-settle.result in
    let has = subst (λ r. IfOk r (HasRunBy (guiding g) (ordering g) a.guide.now e.guide.now a.order.now e.order.now tabu budget s turns e.engine.now.state)) c.in_ok-answer.was run.ok in
    let cut = interrupted_on (is_some e.order.now) e n t refl close.keeps c.in_err-settle.ensures.err in
    let broken = broken_at_end guided ordered tabu budget s turns e.engine.now.state answer n.engine.now.state t.engine.now.state has.has_run close.withdraws (interrupted_filters (is_some e.order.now) n.engine.now t.engine.now cut) in
    record {
      ok = search rules;
      holds = search rules;
      err = on_err _ result (rw (settle.search, close.journal) broken);
      stopped = on_err _ result (rw (settle.search, close.journal, settle.guide, close.guide) (by_last_settling e.engine.now.state n.engine.now.state answer e.order.now has close.withdraws
          (order_stops e.order.now t.order.now n.engine.now t.engine.now (broken_on e n t close.keeps c.in_err-settle.ensures.err))));
      gives = record {
        leaves = broken_leaves reasons_right guided ordered tabu budget s turns t.engine.now.state t.search.now result c.requires.begins.users run.ran.before broken (ap (λ (v : SearchView). v.decisions) settle.search ∙ close.decisions) (search rules);
        on = runs_then run.ran.on close.keeps settle.runs;
      };
    }

-- an answer
pub returns : goal.returns
returns g c =
    let a = c.args.machine.now in
    let e = c.run-answer.new.machine in
    let n = c.close.new.self in
    let t = c.settle.new.self in
    let guided = is_some a.guide.now in
    let ordered = is_some a.order.now in
    let tabu = c.args.tabu in
    let budget = c.args.budget in
    let s = a.engine.now.state in
    let run = c.run-answer.ensures in
    let close = c.close.ensures in
    let settle = c.settle.ensures in
    let turns = e.search.now.journal in
    let answer = c.in_ok-answer.answer in
    let users = c.requires.begins.users in
    let settled = settled_on (ordering g) ordered c.in_ok-settle.field-0 e n t run.ran.on.lent.order close.keeps c.in_ok-settle.ensures.ok in
    let has = subst (λ r. IfOk r (HasRunBy (guiding g) (ordering g) a.guide.now e.guide.now a.order.now e.order.now tabu budget s turns e.engine.now.state)) c.in_ok-answer.was run.ok in
    let whole = repaired_by (guiding g) (ordering g) a.guide.now e.guide.now a.order.now e.order.now t.order.now tabu budget s turns e.engine.now.state answer c.in_ok-settle.field-0 n.engine.now t.engine.now has close.withdraws settled in
    record {
      ok = rw (settle.search, close.journal, settle.guide, close.guide) whole;
      holds = answer_true reasons_right guided ordered tabu budget s turns t.engine.now.state answer users run.ran.before whole.repaired;
      err = tt;
      stopped = tt;
      gives = record {
        leaves = repaired_leaves reasons_right guided ordered tabu budget s turns (end_of answer) whole.repaired.dropped t.engine.now.state t.search.now answer users run.ran.before whole.repaired.repairs
            (ap (λ (v : SearchView). v.decisions) settle.search ∙ close.decisions);
        on = runs_then run.ran.on close.keeps settle.runs;
      };
    }
