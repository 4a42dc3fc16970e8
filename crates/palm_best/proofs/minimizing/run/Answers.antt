use Rattle.std.proofs.Common.{◌<◌, Option, is_some, length, refl, rules, sym, ap, ◌∙◌, subst}
use Rattle.std.specs.Prelude.{Result, Ok, Err, IfOk}
use Rattle.palm_events.proofs.cited.Reasons.{reasons_right}
use Rattle.palm_engine.specs.Following.{Hearing, OrderFollows}
use Rattle.palm_search.specs.declared.next.Next.TheVariants.{Ended}
use Rattle.palm_search.specs.Calls.{SearchView, search_state}
use Rattle.palm_search.specs.Following.{GuideFollows, Moment}
use Rattle.palm_search.specs.Stopping.GuideStops.{stops_silent}
use Rattle.palm_search.specs.Turning.{IsNext}
use Rattle.palm_search.proofs.cited.Lending.{broken_on, has_run_on, interrupted_on, runs_then, settled_on}
use Rattle.palm_search.proofs.cited.Results.{on_err}
use Rattle.palm_search.proofs.cited.Stopping.{decision_stops, order_stops}
use Rattle.palm_search.proofs.cited.Taking.{taken_deciding, taken_undoing}
use Rattle.palm_best.specs.declared.best.Best.TheVariants.{Spent}
use Rattle.palm_best.specs.Following.{HasRunBy}
use Rattle.palm_best.specs.Improving.{Proves, best_state}
use Rattle.palm_best.proofs.Looping.{HasMadeOn, IsTarget, Stops, ends_by, found_long, found_small, goes_on_by, made_fewer, next_free, proved_ends, starts_by, stops_first, stops_here, stops_settling, stops_undoing}
use Rattle.palm_best.proofs.Looping.HasMade.{made_cut, made_turn}
use Rattle.palm_best.specs.Stopping.IsCutOffBy.{by_first_settling}
use Rattle.palm_best.proofs.Stopping.{cut_here_by, cut_settling_by, cut_undoing_by}
use Rattle.palm_best.proofs.minimizing.run.Given as given
use Rattle.palm_best.proofs.minimizing.run.Goals as goal
use Rattle.palm_best.proofs.minimizing.run.Goals.{After-drop-conflict-inside, After-settle-in-loop-values, in-Decide+in_ok-decide-in-Decide, in-Ended-Found+in_ok-improve-in-Ended-Found, in-Undo+in_ok-undo_latest-in-Undo}

-- the guide's own relations, and the order's
abbrev guiding : (g : given.Over) → Moment → Option g.row.G.Denot → Option g.row.G.Denot → Type 0
guiding g = GuideFollows g.G.Guide.answers g.G.Guide.hears g.G.Guide.state

abbrev ordering : (g : given.Over) → Hearing → Option g.row.O.Denot → Option g.row.O.Denot → Type 0
ordering g = OrderFollows g.O.Order.answers g.O.Order.hears g.O.Order.state

-- ---- the first settling

pub returns-in_err-settle : goal.returns-in_err-settle
returns-in_err-settle g c =
    let a = c.args.machine.now in
    let n = c.settle.new.self in
    let settle = c.settle.ensures in
    let fresh = settle.search ∙ c.requires.fresh in
    let stops = stops_first (is_some a.guide.now) (is_some a.order.now) c.args.target c.args.budget a.engine.now n.engine.now n.search.now c.args.incumbent.now
    c.store-store.ensures.valid c.requires.none fresh c.requires.opened c.in_err-settle.ensures.err.interrupted in
    record {
      ok = search rules;
      err = on_err _ c.from_residual.result stops.is;
      stopped = on_err _ c.from_residual.result (by_first_settling (ap (λ (v : SearchView). v.journal) fresh) settle.guide (order_stops a.order.now n.order.now a.engine.now n.engine.now c.in_err-settle.ensures.err));
      cuts = stops.active;
      few = stops.few;
      ran = record { before = c.store-store.ensures.valid; on = settle.runs; decisions = stops.decisions };
    }

pub loop-values-init : goal.loop-values-init
loop-values-init g c =
    let a = c.args.machine.now in
    let n = c.settle.new.self in
    let settle = c.settle.ensures in
    record {
      by = rw settle.guide (starts_by reasons_right (guiding g) (ordering g) (is_some a.guide.now) a.guide.now a.order.now n.order.now c.args.target c.args.budget c.in_ok-settle.field-0 a.engine.now n.engine.now n.search.now c.args.incumbent.now
          c.store-store.ensures.valid c.requires.none (settle.search ∙ c.requires.fresh) c.requires.opened c.in_ok-settle.ensures.ok);
      runs = settle.runs;
    }

-- ---- memory ran out before a move or within it

pub returns-in_err-values-clause-err : goal.returns-in_err-values-clause-err
returns-in_err-values-clause-err g c =
    let a = c.args.machine.now in
    let m = c.loop-values.machine in
    let i = c.loop-values.incumbent in
    on_err _ c.from_residual-in_err-values.result
    (stops_here (is_some a.guide.now) (is_some a.order.now) c.args.target c.args.budget a.engine.now.state m.engine.now.state m.engine.now.state m.search.now m.search.now i i.cuts c.loop-values.invariant.by.minimizing refl refl refl).is

pub returns-in_err-values-clause-stopped : goal.returns-in_err-values-clause-stopped
returns-in_err-values-clause-stopped g c =
    let a = c.args.machine.now in
    let m = c.loop-values.machine in
    let i = c.loop-values.incumbent in
    on_err _ c.from_residual-in_err-values.result
    (cut_here_by a.guide.now m.guide.now m.guide.now a.order.now m.order.now c.args.target c.args.budget a.engine.now.state m.engine.now.state m.engine.now.state m.search.now m.search.now i c.loop-values.invariant.by refl refl (stops_silent refl))

pub returns-in_err-improve-in-Ended-Found-clause-stopped : goal.returns-in_err-improve-in-Ended-Found-clause-stopped
returns-in_err-improve-in-Ended-Found-clause-stopped g c =
    let a = c.args.machine.now in
    let m = c.loop-values.machine in
    let i = c.loop-values.incumbent in
    let same = c.in_err-improve-in-Ended-Found.ensures.err in
    on_err _ c.from_residual-in_err-improve-in-Ended-Found.result
    (cut_here_by a.guide.now m.guide.now m.guide.now a.order.now m.order.now c.args.target c.args.budget a.engine.now.state m.engine.now.state c.improve.new.engine.state m.search.now m.search.now i c.loop-values.invariant.by (λ i. (same.0 i).state) refl (stops_silent refl))

pub returns-in-Ended-NoSolution-clause-stopped : goal.returns-in-Ended-NoSolution-clause-stopped
returns-in-Ended-NoSolution-clause-stopped g c =
    let a = c.args.machine.now in
    let m = c.loop-values.machine in
    let i = c.loop-values.incumbent in
    on_err _ c.proved.result
    (cut_here_by a.guide.now m.guide.now m.guide.now a.order.now m.order.now c.args.target c.args.budget a.engine.now.state m.engine.now.state m.engine.now.state m.search.now m.search.now i c.loop-values.invariant.by refl refl (stops_silent refl))

pub returns-in_err-decide-in-Decide-clause-stopped : goal.returns-in_err-decide-in-Decide-clause-stopped
returns-in_err-decide-in-Decide-clause-stopped g c =
    let a = c.args.machine.now in
    let m = c.loop-values.machine in
    let i = c.loop-values.incumbent in
    let cut = c.in_err-decide-in-Decide.ensures in
    on_err _ c.from_residual-in_err-decide-in-Decide.result
    (rw cut.keeps.quiet.order (cut_here_by a.guide.now m.guide.now c.decide.new.self.guide.now a.order.now m.order.now c.args.target c.args.budget a.engine.now.state m.engine.now.state c.decide.new.self.engine.now.state m.search.now c.decide.new.self.search.now i c.loop-values.invariant.by
    (λ i. (cut.err.0 i).state) cut.err.1 (decision_stops (search_state m.engine.now.state m.search.now) m.guide.now c.decide.new.self.guide.now cut.asked)))

pub returns-in_err-decide-in-Decide-clause-ran : goal.returns-in_err-decide-in-Decide-clause-ran
returns-in_err-decide-in-Decide-clause-ran g c = has_run_on c.store-store.ensures.valid c.loop-values.invariant.runs c.decide.ensures.keeps

pub returns-in_err-undo_latest-in-Undo-clause-stopped : goal.returns-in_err-undo_latest-in-Undo-clause-stopped
returns-in_err-undo_latest-in-Undo-clause-stopped g c =
    let a = c.args.machine.now in
    let m = c.loop-values.machine in
    let i = c.loop-values.incumbent in
    let next = subst (IsNext c.args.budget m.engine.now.state m.search.now) c.in-Undo.is c.in_ok-values.ensures in
    let cut = c.in_err-undo_latest-in-Undo.ensures in
    on_err _ c.from_residual-in_err-undo_latest-in-Undo.result
    (rw cut.keeps.quiet.order (cut_undoing_by g.G.Guide.answers g.G.Guide.hears g.G.Guide.state a.guide.now m.guide.now c.undo_latest.new.self.guide.now a.order.now m.order.now c.args.target c.args.budget a.engine.now.state m.engine.now.state c.undo_latest.new.self.engine.now.state
    m.search.now c.undo_latest.new.self.search.now i c.in-Undo.conflict c.loop-values.invariant.by next.0 next.1 cut.err cut.stopped))

pub returns-in_err-undo_latest-in-Undo-clause-ran : goal.returns-in_err-undo_latest-in-Undo-clause-ran
returns-in_err-undo_latest-in-Undo-clause-ran g c = has_run_on c.store-store.ensures.valid c.loop-values.invariant.runs c.undo_latest.ensures.keeps

pub returns-in_err-improve-in-Ended-Found-clause-err : goal.returns-in_err-improve-in-Ended-Found-clause-err
returns-in_err-improve-in-Ended-Found-clause-err g c =
    let a = c.args.machine.now in
    let m = c.loop-values.machine in
    let i = c.loop-values.incumbent in
    let same = c.in_err-improve-in-Ended-Found.ensures.err in
    on_err _ c.from_residual-in_err-improve-in-Ended-Found.result
    (stops_here (is_some a.guide.now) (is_some a.order.now) c.args.target c.args.budget a.engine.now.state m.engine.now.state c.improve.new.engine.state m.search.now m.search.now i i.cuts c.loop-values.invariant.by.minimizing
    (λ i. (same.0 i).state) refl refl).is

pub returns-in-Ended-NoSolution-clause-err : goal.returns-in-Ended-NoSolution-clause-err
returns-in-Ended-NoSolution-clause-err g c =
    let a = c.args.machine.now in
    let m = c.loop-values.machine in
    let i = c.loop-values.incumbent in
    on_err _ c.proved.result
    (stops_here (is_some a.guide.now) (is_some a.order.now) c.args.target c.args.budget a.engine.now.state m.engine.now.state m.engine.now.state m.search.now m.search.now i i.cuts c.loop-values.invariant.by.minimizing refl refl refl).is

pub returns-in_err-decide-in-Decide-clause-err : goal.returns-in_err-decide-in-Decide-clause-err
returns-in_err-decide-in-Decide-clause-err g c =
    let a = c.args.machine.now in
    let m = c.loop-values.machine in
    let i = c.loop-values.incumbent in
    let same = c.in_err-decide-in-Decide.ensures.err in
    on_err _ c.from_residual-in_err-decide-in-Decide.result
    (stops_here (is_some a.guide.now) (is_some a.order.now) c.args.target c.args.budget a.engine.now.state m.engine.now.state c.decide.new.self.engine.now.state m.search.now c.decide.new.self.search.now i i.cuts c.loop-values.invariant.by.minimizing
    (λ i. (same.0 i).state) same.1 refl).is

undoing_stops : (g : given.Over) (c : After-drop-conflict-inside g)
    → Stops (is_some c.args.machine.now.guide.now) (is_some c.args.machine.now.order.now) c.args.target c.args.budget c.args.machine.now.engine.now.state c.undo_latest.new.self.engine.now.state c.undo_latest.new.self.search.now c.loop-values.incumbent.cuts
undoing_stops g c =
    let a = c.args.machine.now in
    let m = c.loop-values.machine in
    let i = c.loop-values.incumbent in
    let next = subst (IsNext c.args.budget m.engine.now.state m.search.now) c.in-Undo.is c.in_ok-values.ensures in
    let undoing = c.in_err-undo_latest-in-Undo.ensures in
    stops_undoing (is_some a.guide.now) (is_some a.order.now) c.args.target c.args.budget a.engine.now.state m.engine.now.state c.undo_latest.new.self.engine.now.state m.search.now c.undo_latest.new.self.search.now i c.in-Undo.conflict c.loop-values.invariant.by.minimizing next.0
    undoing.err undoing.keeps.decisions

pub returns-in_err-undo_latest-in-Undo-clause-err : goal.returns-in_err-undo_latest-in-Undo-clause-err
returns-in_err-undo_latest-in-Undo-clause-err g c =
    on_err _ c.from_residual-in_err-undo_latest-in-Undo.result (undoing_stops g c).is

pub returns-in_err-undo_latest-in-Undo-clause-cuts : goal.returns-in_err-undo_latest-in-Undo-clause-cuts
returns-in_err-undo_latest-in-Undo-clause-cuts g c =
    (undoing_stops g c).active

-- ---- a cut

pub improve-requires-clause-long : goal.improve-requires-clause-long
improve-requires-clause-long g c =
    let m = c.loop-values.machine in
    let arm = c.in-Ended-Found in
    let found = subst (IsNext c.args.budget m.engine.now.state m.search.now) (arm.is ∙ ap Ended arm.field-0-is) c.in_ok-values.ensures in
    found_long m.engine.now.state c.args.target arm.values found (subst (λ d. c.args.target < length d) (sym c.loop-values.invariant.by.minimizing.keeps.initial) c.requires.target)

pub improve-requires-clause-value : goal.improve-requires-clause-value
improve-requires-clause-value g c =
    let a = c.args.machine.now in
    let m = c.loop-values.machine in
    let i = c.loop-values.incumbent in
    let arm = c.in-Ended-Found in
    let found = subst (IsNext c.args.budget m.engine.now.state m.search.now) (arm.is ∙ ap Ended arm.field-0-is) c.in_ok-values.ensures in
    let so_far = c.loop-values.invariant.by.minimizing in
    found_small c.args.target a.engine.now.state m.engine.now.state m.search.now i arm.values (record { declared = c.requires.target; values = c.requires.values }) so_far.keeps so_far.still found

pub improve-requires-clause-free : goal.improve-requires-clause-free
improve-requires-clause-free g c =
    let a = c.args.machine.now in
    let m = c.loop-values.machine in
    let i = c.loop-values.incumbent in
    next_free c.args.target a.engine.now.state m.engine.now.state m.search.now i c.loop-values.invariant.by.minimizing.keeps

-- ---- the settling after a move

-- the move that was made before it, in one of the three ways
made : (g : given.Over) (c : After-settle-in-loop-values g) → HasMadeOn (guiding g) c.args.target c.args.budget c.loop-values.machine c.match-branch-3.machine c.loop-values.incumbent c.match-branch-3.incumbent
made g c =
    let m = c.loop-values.machine in
    let i = c.loop-values.incumbent in
    let answers = g.G.Guide.answers in
    let hears = g.G.Guide.hears in
    let state = g.G.Guide.state in
    elim c.match-branch-3.branch [
      | in-Ended-Found+in_ok-improve-in-Ended-Found w ↦
          let done = w.in_ok-improve-in-Ended-Found.ensures in
          let arm = w.in-Ended-Found in
          let found = subst (IsNext c.args.budget m.engine.now.state m.search.now) (arm.is ∙ ap Ended arm.field-0-is) c.in_ok-values.ensures in
          rw (w.machine-is, w.incumbent-is) (record {
            made = made_cut arm.values found done.ok done.counts refl refl;
            keeps = record { holds = record { engine = refl; search = refl; guide = refl; order = refl; steps = refl }; order = refl; steps = refl; counts = done.counts; stays = refl };
          })
      | in-Decide+in_ok-decide-in-Decide w ↦
          let done = w.in_ok-decide-in-Decide.ensures in
          rw (w.machine-is, w.incumbent-is) (record {
            made = made_turn (taken_deciding answers hears state c.args.budget m.engine.now _ m.search.now _ m.guide.now _ _ w.in_ok-decide-in-Decide.field-0 w.in-Decide.is c.in_ok-values.ensures done.ok done.keeps.decisions done.keeps.quiet.counts done.keeps.quiet.stays) refl;
            keeps = done.keeps.quiet;
          })
      | in-Undo+in_ok-undo_latest-in-Undo w ↦
          let done = w.in_ok-undo_latest-in-Undo.ensures in
          rw (w.machine-is, w.incumbent-is) (record {
            made = made_turn (taken_undoing answers hears state c.args.budget m.engine.now _ m.search.now _ m.guide.now _ _ w.in-Undo.conflict w.in-Undo.is c.in_ok-values.ensures done.ok done.told done.keeps.decisions done.keeps.quiet.counts done.keeps.quiet.stays) refl;
            keeps = done.keeps.quiet;
          })
    ]

target_of : (g : given.Over) (c : After-settle-in-loop-values g) → IsTarget c.args.target c.args.machine.now.engine.now.state
target_of g c =
    record { declared = c.requires.target; values = c.requires.values }

pub loop-values-smaller : goal.loop-values-smaller
loop-values-smaller g c =
    let at = (goal.at.loop-values-smaller g c).After-settle-in-loop-values in
    let a = c.args.machine.now in
    let m = c.loop-values.machine in
    let t = c.match-branch-3.machine in
    let n = c.settle-in-loop-values.new.self in
    rw c.settle-in-loop-values.ensures.search (made_fewer (guiding g) (is_some a.guide.now) (is_some a.order.now) c.args.target c.args.budget a.engine.now.state m.engine.now t.engine.now m.search.now t.search.now
    c.loop-values.incumbent c.match-branch-3.incumbent m.guide.now t.guide.now (target_of g at) c.loop-values.invariant.by.minimizing (made g at).made)

pub loop-values-preserved : goal.loop-values-preserved
loop-values-preserved g c =
    let at = (goal.at.loop-values-preserved g c).After-settle-in-loop-values in
    let a = c.args.machine.now in
    let m = c.loop-values.machine in
    let t = c.match-branch-3.machine in
    let n = c.settle-in-loop-values.new.self in
    let so_far = c.loop-values.invariant in
    let moved = made g at in
    let settle = c.settle-in-loop-values.ensures in
    let settled = settled_on (ordering g) (is_some a.order.now) c.in_ok-settle-2.field-0 m t n so_far.runs.lent.order moved.keeps c.in_ok-settle-2.ensures.ok in
    record {
      by = rw (settle.search, settle.guide) (goes_on_by reasons_right (guiding g) (ordering g) a.guide.now m.guide.now t.guide.now a.order.now m.order.now n.order.now c.args.target c.args.budget c.in_ok-settle-2.field-0
          a.engine.now.state m.engine.now t.engine.now n.engine.now m.search.now t.search.now c.loop-values.incumbent c.match-branch-3.incumbent (target_of g at) so_far.runs.lent.guide so_far.by moved.made settled);
      runs = runs_then so_far.runs moved.keeps settle.runs;
    }

pub returns-in_err-settle-2 : goal.returns-in_err-settle-2
returns-in_err-settle-2 g c =
    let at = (goal.at.returns-in_err-settle-2 g c).After-settle-in-loop-values in
    let a = c.args.machine.now in
    let m = c.loop-values.machine in
    let t = c.match-branch-3.machine in
    let n = c.settle-in-loop-values.new.self in
    let i = c.loop-values.incumbent in
    let j = c.match-branch-3.incumbent in
    let so_far = c.loop-values.invariant in
    let moved = made g at in
    let target = c.args.target in
    let budget = c.args.budget in
    let guided = is_some a.guide.now in
    let ordered = is_some a.order.now in
    let settle = c.settle-in-loop-values.ensures in
    let cut = interrupted_on ordered m t n so_far.runs.lent.order moved.keeps c.in_err-settle-2.ensures.err in
    let stops = stops_settling (guiding g) guided ordered target budget a.engine.now.state m.engine.now t.engine.now n.engine.now m.search.now t.search.now i j m.guide.now t.guide.now (target_of g at) so_far.runs.lent.guide so_far.by.minimizing moved.made cut in
    record {
      ok = search rules;
      err = on_err _ c.from_residual-in_err-settle-2.result (rw settle.search stops.is);
      stopped = on_err _ c.from_residual-in_err-settle-2.result (rw (settle.search, settle.guide) (cut_settling_by a.guide.now m.guide.now t.guide.now a.order.now m.order.now n.order.now target budget a.engine.now.state m.engine.now t.engine.now n.engine.now
          m.search.now t.search.now i j so_far.runs.lent.guide so_far.by moved.made (broken_on m t n moved.keeps c.in_err-settle-2.ensures.err)));
      cuts = stops.active;
      few = stops.few;
      ran = record { before = c.store-store.ensures.valid; on = runs_then so_far.runs moved.keeps settle.runs; decisions = rw settle.search stops.decisions };
    }

-- ---- the end

if_ok : {T E : Type 0} (P Q : T → Type 0) (result : Result T E) → ((x : T) → P x → Q x) → IfOk result P → IfOk result Q
if_ok P Q (Ok x) to p = to x p
if_ok P Q (Err e) to p = tt

pub returns-in-Ended-NoSolution-clause-ok : goal.returns-in-Ended-NoSolution-clause-ok
returns-in-Ended-NoSolution-clause-ok g c =
    let a = c.args.machine.now in
    let m = c.loop-values.machine in
    let i = c.loop-values.incumbent in
    let arm = c.in-Ended-NoSolution in
    let target = c.args.target in
    let budget = c.args.budget in
    let s = a.engine.now.state in
    let none = subst (IsNext budget m.engine.now.state m.search.now) (arm.is ∙ ap Ended arm.field-0-is) c.in_ok-values.ensures in
    if_ok (Proves i.values arm.users)
    (λ best. HasRunBy (guiding g) (ordering g) a.guide.now m.guide.now a.order.now m.order.now target budget s m.search.now.journal best (search_state m.engine.now.state m.search.now)) c.proved.result
    (λ best proves. ends_by (guiding g) (ordering g) a.guide.now m.guide.now a.order.now m.order.now target budget s m.engine.now.state m.search.now i best c.loop-values.invariant.by
    (proved_ends budget (length m.search.now.journal) (best_state m.engine.now.state m.search.now i) i.values arm.users best refl none proves)) c.proved.ensures.ok

pub returns-in-Ended-Spent-clause-ok : goal.returns-in-Ended-Spent-clause-ok
returns-in-Ended-Spent-clause-ok g c =
    let a = c.args.machine.now in
    let m = c.loop-values.machine in
    let i = c.loop-values.incumbent in
    let arm = c.in-Ended-Spent in
    let spent = subst (IsNext c.args.budget m.engine.now.state m.search.now) (arm.is ∙ ap Ended arm.field-0-is) c.in_ok-values.ensures in
    ends_by (guiding g) (ordering g) a.guide.now m.guide.now a.order.now m.order.now c.args.target c.args.budget a.engine.now.state m.engine.now.state m.search.now i (Spent arm.turns c.take.result) c.loop-values.invariant.by (c.take.ensures.value, spent)
