use Rattle.std.proofs.Common.{None, Option, Some, length, refl, rules, sym, ap, ◌∙◌, subst}
use Rattle.std.specs.Prelude.{is_some}
use Rattle.palm_events.proofs.cited.Reasons.{reasons_right}
use Rattle.palm_engine.specs.Following.{Hearing, OrderFollows}
use Rattle.palm_search.specs.Following.{GuideFollows, Moment}
use Rattle.palm_search.specs.Calls.{SearchView}
use Rattle.palm_search.specs.Stopping.GuideStops.{stops_silent}
use Rattle.palm_search.proofs.cited.Lending.{broken_on, has_run_on, interrupted_on, runs_then, settled_on}
use Rattle.palm_search.proofs.cited.Results.{on_err}
use Rattle.palm_search.proofs.cited.Running.{fresh_has, interrupted_filters, settled_filters}
use Rattle.palm_search.proofs.cited.Stopping.{order_stops}
use Rattle.palm_repair.specs.Machine.{repair_of}
use Rattle.palm_repair.specs.Turning.{Advances, IsCutTurn}
use Rattle.palm_repair.proofs.Following.{run_ends_by, run_goes_on_by, run_starts_by}
use Rattle.palm_repair.proofs.Learning.{rows_length}
use Rattle.palm_repair.proofs.Running.{cut_first, cut_settling, cut_started, cut_turn, filtered_has, none_learned}
use Rattle.palm_repair.specs.Stopping.IsCutOffBy.{by_first_settling}
use Rattle.palm_repair.proofs.Stopping.{cut_here_by, cut_settling_by, cut_turn_by}
use Rattle.palm_repair.proofs.whole.run.Given as given
use Rattle.palm_repair.proofs.whole.run.Goals as goal

-- the guide's own relations, and the order's
abbrev guiding : (g : given.Over) → Moment → Option g.row.G.Denot → Option g.row.G.Denot → Type 0
guiding g = GuideFollows g.G.Guide.answers g.G.Guide.hears g.G.Guide.state

abbrev ordering : (g : given.Over) → Hearing → Option g.row.O.Denot → Option g.row.O.Denot → Type 0
ordering g = OrderFollows g.O.Order.answers g.O.Order.hears g.O.Order.state

-- ---- the first settling

pub returns-in_err-settle : goal.returns-in_err-settle
returns-in_err-settle g c =
    let a = c.args.machine.now in
    let n = c.settle.new.self in
    let settle = c.settle.ensures in
    let fresh = settle.search ∙ c.requires.begins.fresh in
    let cut = c.in_err-settle.ensures.err in
    let result = c.from_residual.result in
    record {
      ok = search rules;
      err = on_err _ result (cut_first (is_some a.guide.now) (is_some a.order.now) c.args.tabu c.args.budget a.engine.now n.engine.now n.search.now fresh cut.interrupted);
      stopped = on_err _ result (by_first_settling (ap (λ (v : SearchView). v.journal) fresh) settle.guide (order_stops a.order.now n.order.now a.engine.now n.engine.now cut));
      ran = record {
        before = c.store-store.ensures.valid;
        on = settle.runs;
        decisions = filtered_has a.engine.now.state n.engine.now.state n.search.now (interrupted_filters (is_some a.order.now) a.engine.now n.engine.now cut.interrupted)
            (fresh_has a.engine.now.state n.search.now c.store-store.ensures.valid c.requires.begins.users fresh);
      };
    }

pub returns-in_err-learned : goal.returns-in_err-learned
returns-in_err-learned g c =
    let a = c.args.machine.now in
    let n = c.settle.new.self in
    let settle = c.settle.ensures in
    let fresh = settle.search ∙ c.requires.begins.fresh in
    let guide = a.guide.now in
    let settled = c.in_ok-settle.ensures.ok in
    let answer = c.in_ok-settle.field-0 in
    let first = none_learned a.engine.now.state in
    let by = run_starts_by reasons_right (guiding g) (ordering g) guide a.order.now n.order.now c.args.tabu c.args.budget answer a.engine.now n.engine.now n.search.now first c.store-store.ensures.valid
    c.requires.begins.users fresh settled refl in
    let result = c.from_residual-in_err-learned.result in
    record {
      ok = search rules;
      err = on_err _ result (cut_started (is_some guide) (is_some a.order.now) c.args.tabu c.args.budget answer a.engine.now n.engine.now n.search.now fresh settled.settled);
      stopped = on_err _ result (rw settle.guide (cut_here_by guide guide guide a.order.now n.order.now c.args.tabu c.args.budget a.engine.now.state n.engine.now.state n.engine.now.state n.search.now n.search.now.journal first by refl refl (stops_silent refl)));
      ran = record {
        before = c.store-store.ensures.valid;
        on = settle.runs;
        decisions = filtered_has a.engine.now.state n.engine.now.state n.search.now (settled_filters (is_some a.order.now) answer a.engine.now n.engine.now settled.settled)
            (fresh_has a.engine.now.state n.search.now c.store-store.ensures.valid c.requires.begins.users fresh);
      };
    }

-- ---- turns

pub loop-learned-init : goal.loop-learned-init
loop-learned-init g c =
    let a = c.args.machine.now in
    let n = c.settle.new.self in
    let settle = c.settle.ensures in
    let settled = c.in_ok-settle.ensures.ok in
    let answer = c.in_ok-settle.field-0 in
    let filters = settled_filters (is_some a.order.now) answer a.engine.now n.engine.now settled.settled in
    let rows = rows_length c.store.result.now n.engine.now.state.initial c.store.ensures.initial in
    let new = c.in_ok-learned.ensures a.engine.now.state.initial (sym (c.variables.ensures.count ∙ rows ∙ ap length filters.initial)) in
    record {
      by = rw settle.guide (run_starts_by reasons_right (guiding g) (ordering g) a.guide.now a.order.now n.order.now c.args.tabu c.args.budget answer a.engine.now n.engine.now n.search.now c.in_ok-learned.learned
          c.store-store.ensures.valid c.requires.begins.users (settle.search ∙ c.requires.begins.fresh) settled new);
      runs = settle.runs;
    }

pub advance-requires-clause-ready : goal.advance-requires-clause-ready
advance-requires-clause-ready g c = c.loop-learned.invariant.by.running.ready

pub advance-requires-clause-within : goal.advance-requires-clause-within
advance-requires-clause-within g c = c.loop-learned.invariant.by.running.turned.within

pub loop-learned-preserved : goal.loop-learned-preserved
loop-learned-preserved g c =
    let a = c.args.machine.now in
    let m = c.loop-learned.machine in
    let t = c.advance.new.machine in
    let n = c.settle-in-loop-learned.new.self in
    let so_far = c.loop-learned.invariant in
    let quiet = c.advance.ensures.keeps.quiet in
    let settle = c.settle-in-loop-learned.ensures in
    let before = repair_of m c.loop-learned.learned in
    let middle = repair_of t c.advance.new.learned in
    let turn = subst (λ b. Advances (guiding g) m.guide.now t.guide.now b c.args.tabu c.args.budget before m.search.now middle t.search.now None) so_far.runs.lent.guide
    (subst (Advances (guiding g) m.guide.now t.guide.now (is_some m.guide.now) c.args.tabu c.args.budget before m.search.now middle t.search.now) c.in_default.is c.in_ok-answer.ensures.ok) in
    let settled = settled_on (ordering g) (is_some a.order.now) c.in_ok-settle-2.field-0 m t n so_far.runs.lent.order quiet c.in_ok-settle-2.ensures.ok in
    record {
      by = rw (settle.search, settle.guide) (run_goes_on_by reasons_right (guiding g) (ordering g) a.guide.now m.guide.now t.guide.now a.order.now m.order.now n.order.now c.args.tabu c.args.budget
          a.engine.now.state m.engine.now.state m.search.now c.loop-learned.learned c.advance.new.learned turn.0 c.in_ok-settle-2.field-0 t.engine.now n.engine.now t.search.now so_far.by turn.2 c.advance.ensures.within turn.3 settled);
      runs = runs_then so_far.runs quiet settle.runs;
    }

-- ---- memory ran out in a turn

pub returns-in_err-answer : goal.returns-in_err-answer
returns-in_err-answer g c =
    let a = c.args.machine.now in
    let m = c.loop-learned.machine in
    let t = c.advance.new.machine in
    let so_far = c.loop-learned.invariant in
    let keeps = c.advance.ensures.keeps in
    let tabu = c.args.tabu in
    let budget = c.args.budget in
    let cut = subst (λ b. IsCutTurn b tabu (repair_of m c.loop-learned.learned) m.search.now t.engine.now.state t.search.now) so_far.runs.lent.guide c.in_err-answer.ensures.err in
    let result = c.from_residual-in_err-answer.result in
    record {
      ok = search rules;
      err = on_err _ result (cut_turn (is_some a.guide.now) (is_some a.order.now) tabu budget a.engine.now.state m.engine.now.state t.engine.now.state m.search.now t.search.now c.loop-learned.learned so_far.by.running cut c.advance.ensures.within);
      stopped = on_err _ result (rw keeps.quiet.order (cut_turn_by a.guide.now m.guide.now t.guide.now a.order.now m.order.now tabu budget a.engine.now.state m.engine.now.state t.engine.now.state
          m.search.now t.search.now c.loop-learned.learned so_far.by cut c.advance.ensures.within c.in_err-answer.ensures.stopped));
      ran = has_run_on c.store-store.ensures.valid so_far.runs keeps;
    }

-- ---- or in the settling after it

pub returns-in_err-settle-2 : goal.returns-in_err-settle-2
returns-in_err-settle-2 g c =
    let a = c.args.machine.now in
    let m = c.loop-learned.machine in
    let t = c.advance.new.machine in
    let n = c.settle-in-loop-learned.new.self in
    let so_far = c.loop-learned.invariant in
    let keeps = c.advance.ensures.keeps in
    let settle = c.settle-in-loop-learned.ensures in
    let tabu = c.args.tabu in
    let budget = c.args.budget in
    let learned = c.loop-learned.learned in
    let before = repair_of m learned in
    let middle = repair_of t c.advance.new.learned in
    let ordered = is_some a.order.now in
    let turn = subst (λ b. Advances (guiding g) m.guide.now t.guide.now b tabu budget before m.search.now middle t.search.now None) so_far.runs.lent.guide
    (subst (Advances (guiding g) m.guide.now t.guide.now (is_some m.guide.now) tabu budget before m.search.now middle t.search.now) c.in_default.is c.in_ok-answer.ensures.ok) in
    let cut = interrupted_on ordered m t n so_far.runs.lent.order keeps.quiet c.in_err-settle-2.ensures.err in
    let result = c.from_residual-in_err-settle-2.result in
    record {
      ok = search rules;
      err = on_err _ result (rw settle.search (cut_settling (is_some a.guide.now) ordered tabu budget a.engine.now.state m.engine.now.state m.search.now learned c.advance.new.learned turn.0 t.engine.now n.engine.now t.search.now so_far.by.running turn.1 turn.2 cut));
      stopped = on_err _ result (rw (settle.search, settle.guide) (cut_settling_by a.guide.now m.guide.now t.guide.now a.order.now m.order.now n.order.now tabu budget a.engine.now.state m.engine.now.state m.search.now
          learned c.advance.new.learned turn.0 t.engine.now n.engine.now t.search.now so_far.by turn.1 turn.2 turn.3 (broken_on m t n keeps.quiet c.in_err-settle-2.ensures.err)));
      ran = record {
        before = c.store-store.ensures.valid;
        on = runs_then so_far.runs keeps.quiet settle.runs;
        decisions = rw settle.search (filtered_has t.engine.now.state n.engine.now.state t.search.now (interrupted_filters ordered t.engine.now n.engine.now cut) keeps.decisions);
      };
    }

-- ---- the end

pub returns-in-Some : goal.returns-in-Some
returns-in-Some g c =
    let a = c.args.machine.now in
    let m = c.loop-learned.machine in
    let t = c.advance.new.machine in
    let so_far = c.loop-learned.invariant in
    let keeps = c.advance.ensures.keeps in
    let tabu = c.args.tabu in
    let budget = c.args.budget in
    let before = repair_of m c.loop-learned.learned in
    let middle = repair_of t c.advance.new.learned in
    let ends = subst (Advances (guiding g) m.guide.now t.guide.now (is_some m.guide.now) tabu budget before m.search.now middle t.search.now) c.in-Some.is c.in_ok-answer.ensures.ok in
    record {
      ok = rw keeps.quiet.order (run_ends_by (guiding g) (ordering g) a.guide.now m.guide.now t.guide.now a.order.now m.order.now tabu budget a.engine.now.state m.engine.now.state t.engine.now.state m.search.now t.search.now
          c.loop-learned.learned c.advance.new.learned c.in-Some.answer so_far.by
          (subst (λ b. Advances (guiding g) m.guide.now t.guide.now b tabu budget before m.search.now middle t.search.now (Some c.in-Some.answer)) so_far.runs.lent.guide ends));
      err = tt;
      stopped = tt;
      ran = has_run_on c.store-store.ensures.valid so_far.runs keeps;
    }
