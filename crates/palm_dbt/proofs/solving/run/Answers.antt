use Rattle.std.proofs.Common.{Option, is_some, refl, rules, ap, ◌∙◌, subst}
use Rattle.palm_events.proofs.cited.Reasons.{reasons_right}
use Rattle.palm_engine.specs.Following.{Hearing, OrderFollows}
use Rattle.palm_search.specs.Following.{GuideFollows, Moment}
use Rattle.palm_search.specs.Machine.{state_of}
use Rattle.palm_search.specs.Turning.{IsNext}
use Rattle.palm_search.proofs.cited.Following.{run_ends_by, run_goes_on_by, run_starts_by}
use Rattle.palm_search.proofs.cited.Lending.{HasTakenOn, broken_on, has_run_on, interrupted_on, runs_then, settled_on}
use Rattle.palm_search.proofs.cited.Results.{on_err}
use Rattle.palm_search.proofs.cited.Running.{cut_first, cut_here, cut_settling, cut_undoing, fresh_has, interrupted_has}
use Rattle.palm_search.specs.Calls.{SearchView, TakesTurn}
use Rattle.palm_search.specs.Stopping.GuideStops.{stops_silent}
use Rattle.palm_search.specs.Stopping.IsCutOffBy.{by_first_settling}
use Rattle.palm_search.proofs.cited.Stopping.{cut_here_by, cut_settling_by, cut_undoing_by, decision_stops, order_stops}
use Rattle.palm_search.proofs.cited.Taking.{taken_deciding, taken_undoing}
use Rattle.palm_dbt.proofs.solving.run.Given as given
use Rattle.palm_dbt.proofs.solving.run.Goals as goal
use Rattle.palm_dbt.proofs.solving.run.Goals.{After-settle-in-loop-end, in-Decide+in_ok-decide-in-Decide, in-Undo+in_ok-undo_latest-in-Undo}

-- the guide's own relations, and the order's
abbrev guiding : (g : given.Over) → Moment → Option g.row.G.Denot → Option g.row.G.Denot → Type 0
guiding g = GuideFollows g.G.Guide.answers g.G.Guide.hears g.G.Guide.state

abbrev ordering : (g : given.Over) → Hearing → Option g.row.O.Denot → Option g.row.O.Denot → Type 0
ordering g = OrderFollows g.O.Order.answers g.O.Order.hears g.O.Order.state

-- ---- the first settling

pub returns-in_err-settle-clause-err : goal.returns-in_err-settle-clause-err
returns-in_err-settle-clause-err g c =
    let a = c.args.machine.now in
    let n = c.settle.new.self in
    on_err _ c.from_residual.result (cut_first (is_some a.guide.now) (is_some a.order.now) c.args.budget a.engine.now n.engine.now n.search.now (c.settle.ensures.search ∙ c.requires.begins.fresh) c.in_err-settle.ensures.err.interrupted)

pub returns-in_err-settle-clause-stopped : goal.returns-in_err-settle-clause-stopped
returns-in_err-settle-clause-stopped g c =
    let a = c.args.machine.now in
    let n = c.settle.new.self in
    on_err _ c.from_residual.result (by_first_settling (ap (λ (v : SearchView). v.journal) (c.settle.ensures.search ∙ c.requires.begins.fresh)) c.settle.ensures.guide (order_stops a.order.now n.order.now a.engine.now n.engine.now c.in_err-settle.ensures.err))

pub returns-in_err-settle-clause-ran : goal.returns-in_err-settle-clause-ran
returns-in_err-settle-clause-ran g c =
    let a = c.args.machine.now in
    let n = c.settle.new.self in
    record {
      before = c.store-store.ensures.valid;
      on = c.settle.ensures.runs;
      decisions = interrupted_has (is_some a.order.now) a.engine.now n.engine.now n.search.now c.in_err-settle.ensures.err.interrupted
          (fresh_has a.engine.now.state n.search.now c.store-store.ensures.valid c.requires.begins.users (c.settle.ensures.search ∙ c.requires.begins.fresh));
    }

pub loop-end-init : goal.loop-end-init
loop-end-init g c =
    let a = c.args.machine.now in
    let n = c.settle.new.self in
    record {
      by = rw c.settle.ensures.guide (run_starts_by reasons_right (guiding g) (ordering g) (is_some a.guide.now) a.guide.now a.order.now n.order.now c.args.budget c.in_ok-settle.field-0 a.engine.now n.engine.now n.search.now
          c.store-store.ensures.valid c.requires.begins.users (c.settle.ensures.search ∙ c.requires.begins.fresh) c.in_ok-settle.ensures.ok);
      runs = c.settle.ensures.runs;
    }

-- ---- memory ran out before a turn or within it

pub returns-in_err-end-clause-err : goal.returns-in_err-end-clause-err
returns-in_err-end-clause-err g c =
    let a = c.args.machine.now in
    let m = c.loop-end.machine in
    on_err _ c.from_residual-in_err-end.result
    (cut_here (is_some a.guide.now) (is_some a.order.now) c.args.budget a.engine.now.state m.engine.now.state m.engine.now.state m.search.now m.search.now c.loop-end.invariant.by.running refl refl)

pub returns-in_err-end-clause-stopped : goal.returns-in_err-end-clause-stopped
returns-in_err-end-clause-stopped g c =
    let a = c.args.machine.now in
    let m = c.loop-end.machine in
    on_err _ c.from_residual-in_err-end.result
    (cut_here_by a.guide.now m.guide.now m.guide.now a.order.now m.order.now c.args.budget a.engine.now.state m.engine.now.state m.engine.now.state m.search.now m.search.now c.loop-end.invariant.by refl refl (stops_silent refl))

pub returns-in_err-decide-in-Decide-clause-stopped : goal.returns-in_err-decide-in-Decide-clause-stopped
returns-in_err-decide-in-Decide-clause-stopped g c =
    let a = c.args.machine.now in
    let m = c.loop-end.machine in
    let n = c.decide.new.self in
    let cut = c.in_err-decide-in-Decide.ensures in
    on_err _ c.from_residual-in_err-decide-in-Decide.result
    (rw cut.keeps.quiet.order (cut_here_by a.guide.now m.guide.now n.guide.now a.order.now m.order.now c.args.budget a.engine.now.state m.engine.now.state n.engine.now.state m.search.now n.search.now c.loop-end.invariant.by
    (λ i. (cut.err.0 i).state) cut.err.1 (decision_stops (state_of m) m.guide.now n.guide.now cut.asked)))

pub returns-in_err-decide-in-Decide-clause-err : goal.returns-in_err-decide-in-Decide-clause-err
returns-in_err-decide-in-Decide-clause-err g c =
    let a = c.args.machine.now in
    let m = c.loop-end.machine in
    let n = c.decide.new.self in
    let cut = c.in_err-decide-in-Decide.ensures.err in
    on_err _ c.from_residual-in_err-decide-in-Decide.result
    (cut_here (is_some a.guide.now) (is_some a.order.now) c.args.budget a.engine.now.state m.engine.now.state n.engine.now.state m.search.now n.search.now c.loop-end.invariant.by.running (λ i. (cut.0 i).state) cut.1)

pub returns-in_err-decide-in-Decide-clause-ran : goal.returns-in_err-decide-in-Decide-clause-ran
returns-in_err-decide-in-Decide-clause-ran g c = has_run_on c.store-store.ensures.valid c.loop-end.invariant.runs c.decide.ensures.keeps

pub returns-in_err-undo_latest-in-Undo-clause-err : goal.returns-in_err-undo_latest-in-Undo-clause-err
returns-in_err-undo_latest-in-Undo-clause-err g c =
    let a = c.args.machine.now in
    let m = c.loop-end.machine in
    let n = c.undo_latest.new.self in
    let next = subst (IsNext c.args.budget m.engine.now.state m.search.now) c.in-Undo.is c.in_ok-end.ensures in
    on_err _ c.from_residual-in_err-undo_latest-in-Undo.result
    (cut_undoing (is_some a.guide.now) (is_some a.order.now) c.args.budget a.engine.now.state m.engine.now.state n.engine.now.state m.search.now n.search.now c.in-Undo.conflict c.loop-end.invariant.by.running next.0
    c.in_err-undo_latest-in-Undo.ensures.err)

pub returns-in_err-undo_latest-in-Undo-clause-stopped : goal.returns-in_err-undo_latest-in-Undo-clause-stopped
returns-in_err-undo_latest-in-Undo-clause-stopped g c =
    let a = c.args.machine.now in
    let m = c.loop-end.machine in
    let n = c.undo_latest.new.self in
    let next = subst (IsNext c.args.budget m.engine.now.state m.search.now) c.in-Undo.is c.in_ok-end.ensures in
    let cut = c.in_err-undo_latest-in-Undo.ensures in
    on_err _ c.from_residual-in_err-undo_latest-in-Undo.result
    (rw cut.keeps.quiet.order (cut_undoing_by g.G.Guide.answers g.G.Guide.hears g.G.Guide.state a.guide.now m.guide.now n.guide.now a.order.now m.order.now c.args.budget a.engine.now.state m.engine.now.state n.engine.now.state m.search.now n.search.now
    c.in-Undo.conflict c.loop-end.invariant.by next.0 next.1 cut.err cut.stopped))

pub returns-in_err-undo_latest-in-Undo-clause-ran : goal.returns-in_err-undo_latest-in-Undo-clause-ran
returns-in_err-undo_latest-in-Undo-clause-ran g c = has_run_on c.store-store.ensures.valid c.loop-end.invariant.runs c.undo_latest.ensures.keeps

-- ---- the settling after a turn

-- the turn that was taken before it, in one of the two ways
taken : (g : given.Over) (c : After-settle-in-loop-end g) → HasTakenOn (guiding g) c.args.budget c.loop-end.machine c.match-branch-3.machine
taken g c =
    let m = c.loop-end.machine in
    let answers = g.G.Guide.answers in
    let hears = g.G.Guide.hears in
    let state = g.G.Guide.state in
    elim c.match-branch-3.branch [
      | in-Decide+in_ok-decide-in-Decide w ↦
          let done = w.in_ok-decide-in-Decide.ensures in
          rw w.machine-is (record {
            taken = taken_deciding answers hears state c.args.budget m.engine.now _ m.search.now _ m.guide.now _ _ w.in_ok-decide-in-Decide.field-0 w.in-Decide.is c.in_ok-end.ensures done.ok done.keeps.decisions done.keeps.quiet.counts done.keeps.quiet.stays;
            keeps = done.keeps.quiet;
          })
      | in-Undo+in_ok-undo_latest-in-Undo w ↦
          let done = w.in_ok-undo_latest-in-Undo.ensures in
          rw w.machine-is (record {
            taken = taken_undoing answers hears state c.args.budget m.engine.now _ m.search.now _ m.guide.now _ _ w.in-Undo.conflict w.in-Undo.is c.in_ok-end.ensures done.ok done.told done.keeps.decisions done.keeps.quiet.counts done.keeps.quiet.stays;
            keeps = done.keeps.quiet;
          })
    ]

pub loop-end-preserved : goal.loop-end-preserved
loop-end-preserved g c =
    let a = c.args.machine.now in
    let m = c.loop-end.machine in
    let t = c.match-branch-3.machine in
    let n = c.settle-in-loop-end.new.self in
    let so_far = c.loop-end.invariant in
    let turned = taken g (goal.at.loop-end-preserved g c).After-settle-in-loop-end in
    let taken = turned.taken in
    let settle = c.settle-in-loop-end.ensures in
    let takes = subst (λ b. TakesTurn b taken.turn m.engine.now.state m.search.now t.engine.now.state t.search.now) so_far.runs.lent.guide taken.takes in
    let settled = settled_on (ordering g) (is_some a.order.now) c.in_ok-settle-2.field-0 m t n so_far.runs.lent.order turned.keeps c.in_ok-settle-2.ensures.ok in
    record {
      by = rw (settle.search, settle.guide) (run_goes_on_by reasons_right (guiding g) (ordering g) (is_some a.guide.now) a.guide.now m.guide.now t.guide.now a.order.now m.order.now n.order.now
          c.args.budget a.engine.now.state m.engine.now.state m.search.now taken.turn c.in_ok-settle-2.field-0 t.engine.now n.engine.now t.search.now so_far.by taken.left takes taken.step settled);
      runs = runs_then so_far.runs turned.keeps settle.runs;
    }

pub returns-in_err-settle-2 : goal.returns-in_err-settle-2
returns-in_err-settle-2 g c =
    let a = c.args.machine.now in
    let m = c.loop-end.machine in
    let t = c.match-branch-3.machine in
    let n = c.settle-in-loop-end.new.self in
    let so_far = c.loop-end.invariant in
    let turned = taken g (goal.at.returns-in_err-settle-2 g c).After-settle-in-loop-end in
    let taken = turned.taken in
    let settle = c.settle-in-loop-end.ensures in
    let guided = is_some a.guide.now in
    let ordered = is_some a.order.now in
    let takes = subst (λ b. TakesTurn b taken.turn m.engine.now.state m.search.now t.engine.now.state t.search.now) so_far.runs.lent.guide taken.takes in
    let cut = interrupted_on ordered m t n so_far.runs.lent.order turned.keeps c.in_err-settle-2.ensures.err in
    record {
      ok = search rules;
      err = on_err _ c.from_residual-in_err-settle-2.result (rw settle.search
          (cut_settling guided ordered c.args.budget a.engine.now.state m.engine.now.state m.search.now taken.turn t.engine.now n.engine.now t.search.now so_far.by.running taken.left takes cut));
      stopped = on_err _ c.from_residual-in_err-settle-2.result (rw (settle.search, settle.guide)
          (cut_settling_by a.guide.now m.guide.now t.guide.now a.order.now m.order.now n.order.now c.args.budget a.engine.now.state m.engine.now.state m.search.now taken.turn t.engine.now.state n.engine.now.state t.search.now
          so_far.by taken.left takes taken.step (order_stops m.order.now n.order.now t.engine.now n.engine.now (broken_on m t n turned.keeps c.in_err-settle-2.ensures.err))));
      ran = record {
        before = c.store-store.ensures.valid;
        on = runs_then so_far.runs turned.keeps settle.runs;
        decisions = rw settle.search (interrupted_has ordered t.engine.now n.engine.now t.search.now cut taken.decisions);
      };
    }

-- ---- the end

pub returns-in-Ended-clause-ok : goal.returns-in-Ended-clause-ok
returns-in-Ended-clause-ok g c =
    let a = c.args.machine.now in
    let m = c.loop-end.machine in
    let ends = subst (IsNext c.args.budget m.engine.now.state m.search.now) c.in-Ended.is c.in_ok-end.ensures in
    run_ends_by (guiding g) (ordering g) a.guide.now m.guide.now a.order.now m.order.now c.args.budget a.engine.now.state m.engine.now.state m.search.now c.in-Ended.end c.loop-end.invariant.by ends
