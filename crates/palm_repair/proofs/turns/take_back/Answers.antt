use Rattle.std.proofs.Common.{◌≡◌, ◌+◌, ◌<◌, ◌≤◌, Some, [], ◌∷◌, slice_get, length, Contains, refl, sym, ap, ◌∙◌, subst, arith, length-append}
use Rattle.std.proofs.lemmas.Result.{on_ok_weaker, on_err_weaker}
use Rattle.palm_base.specs.declared.limits.TheConstants.{LAST_COUNT}
use Rattle.std.specs.Prelude.{MatchOption, is_some}
use Rattle.palm_base.specs.declared.terms.Pair.{Pair}
use Rattle.palm_base.specs.declared.terms.Cid.TheVariants.{Decide}
use Rattle.palm_engine.specs.Engine.{View}
use Rattle.palm_model.specs.Constraint.{Distinct}
use Rattle.palm_search.specs.Calls.{SearchView}
use Rattle.palm_search.specs.Stopping.GuideStops.{stops_silent, stops_told}
use Rattle.palm_search.specs.Stopping.GuideStopsAt.{stops_between, stops_in_turn}
use Rattle.palm_search.specs.Turning.{Hears}
use Rattle.palm_search.specs.Turns.{decided_vars}
use Rattle.palm_search.specs.declared.turn.Turn.TheVariants.{Undo}
use Rattle.palm_search.proofs.cited.Results.{on_err}
use Rattle.palm_repair.specs.Kept.{IsNogood, IsRepairing}
use Rattle.palm_repair.specs.Learned.{IsHeaviestAt, LearnedView, repair_state}
use Rattle.palm_repair.specs.Posting.{Nogood, nogood_of}
use Rattle.palm_repair.specs.Repair.{raised}
use Rattle.palm_repair.specs.Turning.{Learns, LearnsSome, filtered}
use Rattle.palm_repair.specs.Turning.IsCutTurn.{cut_before}
use Rattle.palm_repair.proofs.Stepping.{conflict_distinct, conflict_weighed, hears_stays, heaviest_found, raised_weighed, same_keeps, undone_by}
use Rattle.palm_repair.proofs.turns.take_back.Goals as goal

pub raise-requires-clause-distinct : goal.raise-requires-clause-distinct
raise-requires-clause-distinct g c =
    let a = c.args.machine.now in
    subst Distinct (sym (c.as_slice-3.ensures ∙ c.in_ok-vars.ensures ∙ ap decided_vars c.as_slice.ensures)) (conflict_distinct a.engine.now.state c.args.conflict.now c.requires.flat)

pub raise-requires-clause-within : goal.raise-requires-clause-within
raise-requires-clause-within g c =
    let a = c.args.machine.now in
    λ x m.
    conflict_weighed (repair_state a.engine.now.state a.search.now.decisions c.args.learned.now) c.args.conflict.now x c.requires.ready.at.repairing c.requires.flat
    (subst (λ l. Contains l x) (c.as_slice-3.ensures ∙ c.in_ok-vars.ensures ∙ ap decided_vars c.as_slice.ensures) m)

pub raise-requires-clause-small : goal.raise-requires-clause-small
raise-requires-clause-small g c =
    λ w m.
    let le = c.requires.ready.weights w m in
    let lt = c.requires.small in
    omega (arith, le, lt)

pub heaviest-requires : goal.heaviest-requires
heaviest-requires g c =
    let a = c.args.machine.now in
    λ p m.
    let s = repair_state a.engine.now.state a.search.now.decisions c.args.learned.now in
    let weights = c.weights.ensures ∙ ap (λ (v : LearnedView). v.weights) (c.raise.ensures ∙ ap (λ l. record c.args.learned.now { weights = raised c.args.learned.now.weights l }) (c.as_slice-3.ensures ∙ c.in_ok-vars.ensures ∙ ap decided_vars c.as_slice.ensures)) in
    subst (λ l. p.var < length l) (sym weights) (raised_weighed s (decided_vars c.args.conflict.now) p c.requires.ready.at.repairing (subst (λ l. Contains l p) c.decisions-decisions.ensures m))

pub unwrap-place-requires : goal.unwrap-place-requires
unwrap-place-requires g c =
    let a = c.args.machine.now in
    let s = repair_state a.engine.now.state a.search.now.decisions c.args.learned.now in
    heaviest_found s c.weights.result.now c.args.conflict.now c.requires.held.0 c.heaviest.result c.decisions-decisions.result.now c.as_slice-5.result.now c.requires.ready.at.repairing c.requires.flat c.requires.held.1
    c.decisions-decisions.ensures c.as_slice-5.ensures c.heaviest.ensures

pub learn-requires-clause-repairing : goal.learn-requires-clause-repairing
learn-requires-clause-repairing g c =
    let a = c.args.machine.now in
    let undone = undone_by c.args.tabu a.engine.now.state c.undo.new.self.engine.now.state a.search.now c.undo.new.self.search.now c.args.learned.now c.args.conflict.now c.heaviest.result c.unwrap-place.result
    c.weights.result.now c.decisions-decisions.result.now c.as_slice-5.result.now (c.weights.ensures ∙ ap (λ (v : LearnedView). v.weights) (c.raise.ensures ∙ ap (λ l. record c.args.learned.now { weights = raised c.args.learned.now.weights l }) (c.as_slice-3.ensures ∙ c.in_ok-vars.ensures ∙ ap decided_vars c.as_slice.ensures))) c.decisions-decisions.ensures c.as_slice-5.ensures c.heaviest.ensures c.unwrap-place.ensures
    c.in_ok-undo.ensures.ok c.requires.ready c.requires.flat in
    subst (λ (v : LearnedView). IsRepairing (filtered (repair_state c.undo.new.self.engine.now.state c.undo.new.self.search.now.decisions v))) (sym (c.raise.ensures ∙ ap (λ l. record c.args.learned.now { weights = raised c.args.learned.now.weights l }) (c.as_slice-3.ensures ∙ c.in_ok-vars.ensures ∙ ap decided_vars c.as_slice.ensures))) undone.repairing

pub learn-requires-clause-nogood : goal.learn-requires-clause-nogood
learn-requires-clause-nogood g c =
    let a = c.args.machine.now in
    let undone = undone_by c.args.tabu a.engine.now.state c.undo.new.self.engine.now.state a.search.now c.undo.new.self.search.now c.args.learned.now c.args.conflict.now c.heaviest.result c.unwrap-place.result
    c.weights.result.now c.decisions-decisions.result.now c.as_slice-5.result.now (c.weights.ensures ∙ ap (λ (v : LearnedView). v.weights) (c.raise.ensures ∙ ap (λ l. record c.args.learned.now { weights = raised c.args.learned.now.weights l }) (c.as_slice-3.ensures ∙ c.in_ok-vars.ensures ∙ ap decided_vars c.as_slice.ensures))) c.decisions-decisions.ensures c.as_slice-5.ensures c.heaviest.ensures c.unwrap-place.ensures
    c.in_ok-undo.ensures.ok c.requires.ready c.requires.flat in
    subst (IsNogood c.undo.new.self.engine.now.state) (sym (c.in_ok-nogood.ensures ∙ (λ i. nogood_of (c.decisions.ensures i) (c.as_slice-2.ensures i)))) undone.nogood

pub returns-clause-ok : goal.returns-clause-ok
returns-clause-ok g c =
    let a = c.args.machine.now in
    let undone = undone_by c.args.tabu a.engine.now.state c.undo.new.self.engine.now.state a.search.now c.undo.new.self.search.now c.args.learned.now c.args.conflict.now c.heaviest.result c.unwrap-place.result
    c.weights.result.now c.decisions-decisions.result.now c.as_slice-5.result.now (c.weights.ensures ∙ ap (λ (v : LearnedView). v.weights) (c.raise.ensures ∙ ap (λ l. record c.args.learned.now { weights = raised c.args.learned.now.weights l }) (c.as_slice-3.ensures ∙ c.in_ok-vars.ensures ∙ ap decided_vars c.as_slice.ensures))) c.decisions-decisions.ensures c.as_slice-5.ensures c.heaviest.ensures c.unwrap-place.ensures
    c.in_ok-undo.ensures.ok c.requires.ready c.requires.flat in
    let t = repair_state c.learn.new.engine.state c.undo.new.self.search.now.decisions c.learn.new.self in
    let from = λ (v : LearnedView). filtered (repair_state c.undo.new.self.engine.now.state c.undo.new.self.search.now.decisions v) in
    on_ok_weaker c.learn.result (λ learns. (
      c.in_ok-undo.ensures.ok.gone,
      record {
        takes = undone.turn c.learn.new.self c.learn.new.engine.state (subst (λ (n : Nogood). Learns c.args.tabu n (from (record c.args.learned.now { weights = raised c.args.learned.now.weights (decided_vars c.args.conflict.now) })) t) (c.in_ok-nogood.ensures ∙ (λ i. nogood_of (c.decisions.ensures i) (c.as_slice-2.ensures i)))
            (subst (λ (v : LearnedView). Learns c.args.tabu c.in_ok-nogood.nogood (from v) t) (c.raise.ensures ∙ ap (λ l. record c.args.learned.now { weights = raised c.args.learned.now.weights l }) (c.as_slice-3.ensures ∙ c.in_ok-vars.ensures ∙ ap decided_vars c.as_slice.ensures)) learns));
        journal = undone.journal;
      },
    )) c.learn.ensures.ok

pub returns-clause-err : goal.returns-clause-err
returns-clause-err g c =
    let a = c.args.machine.now in
    let undone = undone_by c.args.tabu a.engine.now.state c.undo.new.self.engine.now.state a.search.now c.undo.new.self.search.now c.args.learned.now c.args.conflict.now c.heaviest.result c.unwrap-place.result
    c.weights.result.now c.decisions-decisions.result.now c.as_slice-5.result.now (c.weights.ensures ∙ ap (λ (v : LearnedView). v.weights) (c.raise.ensures ∙ ap (λ l. record c.args.learned.now { weights = raised c.args.learned.now.weights l }) (c.as_slice-3.ensures ∙ c.in_ok-vars.ensures ∙ ap decided_vars c.as_slice.ensures))) c.decisions-decisions.ensures c.as_slice-5.ensures c.heaviest.ensures c.unwrap-place.ensures
    c.in_ok-undo.ensures.ok c.requires.ready c.requires.flat in
    let t = c.learn.new.engine.state in
    let from = λ (v : LearnedView). filtered (repair_state c.undo.new.self.engine.now.state c.undo.new.self.search.now.decisions v) in
    on_err_weaker c.learn.result (λ learns. undone.cut (is_some a.guide.now) t
    (subst (λ (n : Nogood). LearnsSome c.args.tabu n (from (record c.args.learned.now { weights = raised c.args.learned.now.weights (decided_vars c.args.conflict.now) })) t) (c.in_ok-nogood.ensures ∙ (λ i. nogood_of (c.decisions.ensures i) (c.as_slice-2.ensures i)))
    (subst (λ (v : LearnedView). LearnsSome c.args.tabu c.in_ok-nogood.nogood (from v) t) (c.raise.ensures ∙ ap (λ l. record c.args.learned.now { weights = raised c.args.learned.now.weights l }) (c.as_slice-3.ensures ∙ c.in_ok-vars.ensures ∙ ap decided_vars c.as_slice.ensures)) learns))) c.learn.ensures.err

pub returns-in_err-vars-clause-err : goal.returns-in_err-vars-clause-err
returns-in_err-vars-clause-err g c =
    on_err _ c.from_residual.result (cut_before refl refl)

pub returns-in_err-vars-clause-keeps : goal.returns-in_err-vars-clause-keeps
returns-in_err-vars-clause-keeps g c = same_keeps c.requires.ready.at.repairing.searching.decisions

pub returns-in_err-nogood-clause-err : goal.returns-in_err-nogood-clause-err
returns-in_err-nogood-clause-err g c =
    on_err _ c.from_residual-in_err-nogood.result (cut_before refl refl)

pub returns-in_err-nogood-clause-keeps : goal.returns-in_err-nogood-clause-keeps
returns-in_err-nogood-clause-keeps g c = same_keeps c.requires.ready.at.repairing.searching.decisions

pub undo-requires-clause-decisions : goal.undo-requires-clause-decisions
undo-requires-clause-decisions g c = c.requires.ready.at.repairing.searching.decisions

pub returns-in_err-undo-clause-err : goal.returns-in_err-undo-clause-err
returns-in_err-undo-clause-err g c =
    on_err _ c.from_residual-in_err-undo.result (cut_before (ap (λ (v : View). v.state) c.in_err-undo.ensures.err.0) (ap (λ (v : SearchView). v.journal) c.in_err-undo.ensures.err.1))

pub returns-in_err-undo-clause-keeps : goal.returns-in_err-undo-clause-keeps
returns-in_err-undo-clause-keeps g c =
    let keeps = c.undo.ensures.keeps in
    let quiet = keeps.quiet in
    let holds = quiet.holds in
    record {
      quiet = record {
        holds = record { engine = holds.engine; search = holds.search; guide = holds.guide; order = holds.order; steps = holds.steps };
        order = quiet.order;
        steps = quiet.steps;
        counts = quiet.counts;
        stays = quiet.stays ∙ hears_stays g.G.Guide.hears g.G.Guide.state _ c.args.machine.now.guide.now c.tell.new.guide c.tell.ensures;
      };
      decisions = keeps.decisions;
    }

pub learn-requires-clause-few : goal.learn-requires-clause-few
learn-requires-clause-few g c =
    subst (λ (v : LearnedView). length v.nogoods ≤ c.args.tabu) (sym c.raise.ensures) c.requires.ready.few

pub learn-requires-clause-small : goal.learn-requires-clause-small
learn-requires-clause-small g c =
    let listed = c.requires.ready.listed in
    let small = c.requires.small in
    subst (λ (v : LearnedView). v.dropped + length v.nogoods < LAST_COUNT) (sym c.raise.ensures) (omega (arith, listed, small))

pub returns-clause-told : goal.returns-clause-told
returns-clause-told g c =
    let a = c.args.machine.now in
    on_ok_weaker c.learn.result (λ learns. rw c.undo.ensures.guide (subst (λ l. Hears g.G.Guide.hears g.G.Guide.state l a.guide.now c.tell.new.guide) (c.as_slice-4.ensures ∙ c.in_ok-vars.ensures ∙ ap decided_vars c.as_slice.ensures) c.tell.ensures)) c.learn.ensures.ok

pub returns-in_err-vars-clause-stopped : goal.returns-in_err-vars-clause-stopped
returns-in_err-vars-clause-stopped g c =
    on_err _ c.from_residual.result (stops_between refl (stops_silent refl))

pub returns-in_err-nogood-clause-stopped : goal.returns-in_err-nogood-clause-stopped
returns-in_err-nogood-clause-stopped g c =
    on_err _ c.from_residual-in_err-nogood.result (stops_between refl (stops_silent refl))

pub returns-in_err-undo-clause-stopped : goal.returns-in_err-undo-clause-stopped
returns-in_err-undo-clause-stopped g c =
    let a = c.args.machine.now in
    on_err _ c.from_residual-in_err-undo.result
    (stops_between (ap (λ (v : SearchView). v.journal) c.in_err-undo.ensures.err.1) (stops_told c.args.conflict.now c.requires.flat
    (rw c.undo.ensures.guide (subst (λ l. Hears g.G.Guide.hears g.G.Guide.state l a.guide.now c.tell.new.guide) (c.as_slice-4.ensures ∙ c.in_ok-vars.ensures ∙ ap decided_vars c.as_slice.ensures) c.tell.ensures))))

pub returns-clause-stopped : goal.returns-clause-stopped
returns-clause-stopped g c =
    let a = c.args.machine.now in
    let back = c.in_ok-undo.ensures.ok in
    on_err _ c.learn.result (stops_in_turn (Undo back.gone c.args.conflict.now) back.journal
    (rw c.undo.ensures.guide (subst (λ l. Hears g.G.Guide.hears g.G.Guide.state l a.guide.now c.tell.new.guide) (c.as_slice-4.ensures ∙ c.in_ok-vars.ensures ∙ ap decided_vars c.as_slice.ensures) c.tell.ensures)))

pub returns-clause-keeps : goal.returns-clause-keeps
returns-clause-keeps g c =
    let quiet = c.undo.ensures.keeps.quiet in
    let holds = quiet.holds in
    let learnt = c.learn.ensures.counts in
    record {
      quiet = record {
        holds = record { engine = holds.engine; search = holds.search; guide = holds.guide; order = holds.order; steps = holds.steps };
        order = quiet.order;
        steps = quiet.steps;
        counts = record { revisions = learnt.revisions ∙ quiet.counts.revisions; checks = learnt.checks ∙ quiet.counts.checks };
        stays = quiet.stays ∙ hears_stays g.G.Guide.hears g.G.Guide.state _ c.args.machine.now.guide.now c.tell.new.guide c.tell.ensures;
      };
      decisions = c.learn.ensures.decisions;
    }

pub undo-requires-clause-flat : goal.undo-requires-clause-flat
undo-requires-clause-flat g c =
    c.requires.flat

pub undo-requires-clause-held : goal.undo-requires-clause-held
undo-requires-clause-held g c =
    let held = λ (p : Pair). Contains c.as_slice-5.result.now (Decide p.var) in
    let at = subst (λ o. MatchOption o ((p : Pair) → Contains c.decisions-decisions.result.now p → held p → ⊥) (IsHeaviestAt c.weights.result.now c.decisions-decisions.result.now c.as_slice-5.result.now)) c.unwrap-place.ensures c.heaviest.ensures in
    record {
      pair = at.pair;
      stands = subst (λ l. slice_get l c.unwrap-place.result ≡ Some at.pair) c.decisions-decisions.ensures at.stands;
      held = subst (λ l. Contains l (Decide at.pair.var)) c.as_slice-5.ensures at.held;
    }

pub returns-clause-within : goal.returns-clause-within
returns-clause-within g c =
    let a = c.args.machine.now in
    let back = c.in_ok-undo.ensures.ok in
    let longer = ap length back.journal ∙ length-append a.search.now.journal (Undo back.gone c.args.conflict.now ∷ []) in
    omega (arith, longer)
