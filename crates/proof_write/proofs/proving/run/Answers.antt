use Rattle.std.proofs.Common.{Option, [], is_some, refl, sym, ap, ◌∙◌, subst, append-nil, arith, Err, Ok}
use Rattle.palm_engine.specs.Following.{Hearing, OrderFollows}
use Rattle.palm_lang.specs.declared.stop.WriteStop.TheVariants.{NoMemory}
use Rattle.palm_search.specs.Calls.{SearchView, TakesTurn, search_state}
use Rattle.palm_search.specs.Following.{GuideFollows, Moment}
use Rattle.palm_search.specs.Machine.{KeepsOrder}
use Rattle.palm_search.specs.Stopping.GuideStops.{stops_silent}
use Rattle.palm_search.specs.Stopping.IsCutOffBy.{by_first_settling}
use Rattle.palm_search.specs.Turning.{IsNext}
use Rattle.palm_search.specs.declared.turn.Turn.TheVariants.{Undo as TurnUndo}
use Rattle.palm_search.proofs.cited.Lending.{broken_on, has_run_on, interrupted_on, runs_then, settled_on}
use Rattle.palm_search.proofs.cited.Results.{on_err}
use Rattle.palm_search.proofs.cited.Running.{fewer_left, fresh_has, interrupted_has}
use Rattle.palm_search.proofs.cited.Stopping.{cut_first_by, cut_here_by, cut_settling_by, cut_undoing_by, decision_stops, order_silent, order_stops}
use Rattle.proof_run.specs.SoFar.Follows.{a_lemma, an_end}
use Rattle.proof_write.specs.Numbers.{AreNumbers}
use Rattle.proof_write.specs.declared.numbers.LemmaNumbers.{LemmaNumbers}
use Rattle.proof_write.proofs.Fitting.{book_users}
use Rattle.proof_write.proofs.Running.{HasArgued, argued_deciding, argued_undoing, declaring_stops, left_by, lemma_here, lemma_written, proving_ends, proving_fits, proving_goes_on, proving_starts, proving_stops, stopped_quietly, stopped_with, stops_here, text_here, turn_stops, undoing_stops}
use Rattle.proof_write.proofs.proving.run.Given as given
use Rattle.proof_write.proofs.proving.run.Goals as goal
use Rattle.proof_write.proofs.proving.run.Goals.{After-settle-in-loop-notes, in-Decide+in_ok-decide-in-Decide, in-Undo+in_ok-write_lemma-in-Undo+in_ok-undo_latest-in-Undo+in_ok-note_last-in-Undo}

-- the guide's own relations, and the order's
abbrev guiding : (g : given.Over) → Moment → Option g.row.G.Denot → Option g.row.G.Denot → Type 0
guiding g = GuideFollows g.G.Guide.answers g.G.Guide.hears g.G.Guide.state

abbrev ordering : (g : given.Over) → Hearing → Option g.row.O.Denot → Option g.row.O.Denot → Type 0
ordering g = OrderFollows g.O.Order.answers g.O.Order.hears g.O.Order.state

-- ---- the declarations, and the first settling

pub returns-in_err-write_declarations-clause-ran : goal.returns-in_err-write_declarations-clause-ran
returns-in_err-write_declarations-clause-ran g c =
    let a = c.args.machine.now in
    let fits = c.checks-checks.type_inv in
    let is = c.checks-checks.ensures in
    record {
      before = c.store-store.ensures.valid;
      on = record {
        holds = record { engine = refl; search = refl; guide = refl; order = refl; steps = refl };
        counts = record { later = omega arith; checks = omega (arith, fits, is) };
        lent = record { guide = refl; order = refl };
      };
      decisions = fresh_has a.engine.now.state a.search.now c.store-store.ensures.valid (book_users c.args.book.now a.engine.now.state c.requires.listed.active) c.requires.fresh;
    }

pub returns-in_err-write_declarations-clause-stopped : goal.returns-in_err-write_declarations-clause-stopped
returns-in_err-write_declarations-clause-stopped g c =
    let a = c.args.machine.now in
    let s = a.engine.now.state in
    on_err _ c.from_residual.result (cut_first_by a.guide.now a.order.now a.order.now c.args.budget s s a.search.now c.requires.fresh (order_silent a.order.now s))

pub returns-in_err-settle-clause-stopped : goal.returns-in_err-settle-clause-stopped
returns-in_err-settle-clause-stopped g c =
    let a = c.args.machine.now in
    let n = c.settle.new.self in
    let settle = c.settle.ensures in
    on_err _ c.from_residual-in_err-settle.result (by_first_settling (ap (λ (v : SearchView). v.journal) (settle.search ∙ c.requires.fresh)) settle.guide (order_stops a.order.now n.order.now a.engine.now n.engine.now c.in_err-settle.ensures.err))

pub returns-in_err-settle-clause-stops : goal.returns-in_err-settle-clause-stops
returns-in_err-settle-clause-stops g c =
    let a = c.args.machine.now in
    let n = c.settle.new.self in
    declaring_stops c.args.book.now (is_some a.guide.now) (is_some a.order.now) c.args.budget a.engine.now.state n.search.now (g.K.Sink.state c.args.out.now) (g.K.Sink.state c.write_declarations.new.out) NoMemory
    c.from_residual-in_err-settle.result (stopped_with _ _ c.from_residual-in_err-settle.ensures.1) (c.settle.ensures.search ∙ c.requires.fresh) (stopped_quietly _ _ _ c.in_ok-write_declarations.ensures)

pub returns-in_err-settle-clause-ran : goal.returns-in_err-settle-clause-ran
returns-in_err-settle-clause-ran g c =
    let a = c.args.machine.now in
    let n = c.settle.new.self in
    record {
      before = c.store-store.ensures.valid;
      on = c.settle.ensures.runs;
      decisions = interrupted_has (is_some a.order.now) a.engine.now n.engine.now n.search.now c.in_err-settle.ensures.err.interrupted
          (fresh_has a.engine.now.state n.search.now c.store-store.ensures.valid (book_users c.args.book.now a.engine.now.state c.requires.listed.active) (c.settle.ensures.search ∙ c.requires.fresh));
    }

pub loop-notes-init : goal.loop-notes-init
loop-notes-init g c =
    let a = c.args.machine.now in
    let n = c.settle.new.self in
    record {
      proving = rw c.settle.ensures.guide (proving_starts (guiding g) (ordering g) a.guide.now a.order.now n.order.now c.args.budget c.args.book.now c.in_ok-settle.field-0 a.engine.now n.engine.now n.search.now c.new-notes.result.numbers
          (g.K.Sink.state c.args.out.now) (g.K.Sink.state c.write_declarations.new.out) c.store-store.ensures.valid c.requires.listed.active (c.settle.ensures.search ∙ c.requires.fresh) c.new-notes.ensures c.in_ok-write_declarations.ensures c.in_ok-settle.ensures.ok);
      runs = c.settle.ensures.runs;
    }

-- ---- memory ran out before a turn

pub returns-in_err-end-clause-stopped : goal.returns-in_err-end-clause-stopped
returns-in_err-end-clause-stopped g c =
    let a = c.args.machine.now in
    let m = c.loop-notes.machine in
    on_err _ c.from_residual-in_err-end.result
    (cut_here_by a.guide.now m.guide.now m.guide.now a.order.now m.order.now c.args.budget a.engine.now.state m.engine.now.state m.engine.now.state m.search.now m.search.now (left_by c.loop-notes.invariant.proving) refl refl (stops_silent refl))

pub returns-in_err-end-clause-stops : goal.returns-in_err-end-clause-stops
returns-in_err-end-clause-stops g c =
    let m = c.loop-notes.machine in
    stops_here c.loop-notes.invariant.proving m.search.now c.from_residual-in_err-end.result (stopped_with _ _ c.from_residual-in_err-end.ensures.1) refl

pub returns-in_err-decide-in-Decide-clause-stopped : goal.returns-in_err-decide-in-Decide-clause-stopped
returns-in_err-decide-in-Decide-clause-stopped g c =
    let a = c.args.machine.now in
    let m = c.loop-notes.machine in
    let cut = c.in_err-decide-in-Decide.ensures in
    on_err _ c.from_residual-in_err-decide-in-Decide.result
    (rw cut.keeps.quiet.order (cut_here_by a.guide.now m.guide.now c.decide.new.self.guide.now a.order.now m.order.now c.args.budget a.engine.now.state m.engine.now.state c.decide.new.self.engine.now.state m.search.now c.decide.new.self.search.now (left_by c.loop-notes.invariant.proving)
    (λ i. (cut.err.0 i).state) cut.err.1 (decision_stops (search_state m.engine.now.state m.search.now) m.guide.now c.decide.new.self.guide.now cut.asked)))

pub returns-in_err-decide-in-Decide-clause-ran : goal.returns-in_err-decide-in-Decide-clause-ran
returns-in_err-decide-in-Decide-clause-ran g c = has_run_on c.store-store.ensures.valid c.loop-notes.invariant.runs c.decide.ensures.keeps

pub returns-in_err-decide-in-Decide-clause-stops : goal.returns-in_err-decide-in-Decide-clause-stops
returns-in_err-decide-in-Decide-clause-stops g c =
    stops_here c.loop-notes.invariant.proving c.decide.new.self.search.now c.from_residual-in_err-decide-in-Decide.result (stopped_with _ _ c.from_residual-in_err-decide-in-Decide.ensures.1) c.in_err-decide-in-Decide.ensures.err.1

-- ---- the end

pub write_end-requires-clause-fits : goal.write_end-requires-clause-fits
write_end-requires-clause-fits g c =
    proving_fits c.loop-notes.invariant.proving c.store-store.ensures.valid c.requires.listed.initial c.requires.listed.active

pub write_end-requires-clause-ends : goal.write_end-requires-clause-ends
write_end-requires-clause-ends g c =
    let m = c.loop-notes.machine in
    (c.args.budget, subst (IsNext c.args.budget m.engine.now.state m.search.now) c.in-Ended.is c.in_ok-end.ensures)

pub returns-in_err-write_end-in-Ended-clause-stopped : goal.returns-in_err-write_end-in-Ended-clause-stopped
returns-in_err-write_end-in-Ended-clause-stopped g c =
    let a = c.args.machine.now in
    let m = c.loop-notes.machine in
    on_err _ c.from_residual-in_err-write_end-in-Ended.result
    (cut_here_by a.guide.now m.guide.now m.guide.now a.order.now m.order.now c.args.budget a.engine.now.state m.engine.now.state m.engine.now.state m.search.now m.search.now (left_by c.loop-notes.invariant.proving) refl refl (stops_silent refl))

pub returns-in_err-write_end-in-Ended-clause-stops : goal.returns-in_err-write_end-in-Ended-clause-stops
returns-in_err-write_end-in-Ended-clause-stops g c =
    let m = c.loop-notes.machine in
    let proving = c.loop-notes.invariant.proving in
    let ends = subst (IsNext c.args.budget m.engine.now.state m.search.now) c.in-Ended.is c.in_ok-end.ensures in
    let w = c.in_err-write_end-in-Ended.ensures proving.argued.undone proving.numbered in
    proving_stops proving m.search.now.journal [] w.0 (g.K.Sink.state c.write_end.new.out) c.in_err-write_end-in-Ended.field-0.0 c.from_residual-in_err-write_end-in-Ended.result
    (stopped_with _ _ c.from_residual-in_err-write_end-in-Ended.ensures.1) (sym (append-nil m.search.now.journal)) (omega arith) (an_end c.in-Ended.end ends w.1) w.2

pub returns-in-Ended-clause-ok : goal.returns-in-Ended-clause-ok
returns-in-Ended-clause-ok g c =
    let m = c.loop-notes.machine in
    let proving = c.loop-notes.invariant.proving in
    let ends = subst (IsNext c.args.budget m.engine.now.state m.search.now) c.in-Ended.is c.in_ok-end.ensures in
    let w = c.in_ok-write_end-in-Ended.ensures proving.argued.undone proving.numbered in
    proving_ends proving c.in-Ended.end w.0 (g.K.Sink.state c.write_end.new.out) ends w.1 w.2

-- ---- a lemma

pub write_lemma-requires-clause-fits : goal.write_lemma-requires-clause-fits
write_lemma-requires-clause-fits g c =
    proving_fits c.loop-notes.invariant.proving c.store-store.ensures.valid c.requires.listed.initial c.requires.listed.active

pub returns-in_err-write_lemma-in-Undo-clause-stopped : goal.returns-in_err-write_lemma-in-Undo-clause-stopped
returns-in_err-write_lemma-in-Undo-clause-stopped g c =
    let a = c.args.machine.now in
    let m = c.loop-notes.machine in
    on_err _ c.from_residual-in_err-write_lemma-in-Undo.result
    (cut_here_by a.guide.now m.guide.now m.guide.now a.order.now m.order.now c.args.budget a.engine.now.state m.engine.now.state m.engine.now.state m.search.now m.search.now (left_by c.loop-notes.invariant.proving) refl refl (stops_silent refl))

pub returns-in_err-write_lemma-in-Undo-clause-stops : goal.returns-in_err-write_lemma-in-Undo-clause-stops
returns-in_err-write_lemma-in-Undo-clause-stops g c =
    let m = c.loop-notes.machine in
    let proving = c.loop-notes.invariant.proving in
    let next = subst (IsNext c.args.budget m.engine.now.state m.search.now) c.in-Undo.is c.in_ok-end.ensures in
    let conflict = c.in-Undo.conflict in
    let now = g.K.Sink.state c.write_lemma.new.out in
    let stop = c.in_err-write_lemma-in-Undo.field-0.0 in
    proving_stops proving m.search.now.journal [] (text_here proving conflict next.1.var) now stop c.from_residual-in_err-write_lemma-in-Undo.result (stopped_with _ _ c.from_residual-in_err-write_lemma-in-Undo.ensures.1)
    (sym (append-nil m.search.now.journal)) (omega arith) (a_lemma conflict next.0 next.2 (lemma_here proving conflict next.1))
    (lemma_written proving conflict c.as_slice.result.now next.1 now (Err stop) c.as_slice.ensures c.in_err-write_lemma-in-Undo.ensures.lemma)

-- ---- memory ran out behind it

pub returns-in_err-undo_latest-in-Undo-clause-stopped : goal.returns-in_err-undo_latest-in-Undo-clause-stopped
returns-in_err-undo_latest-in-Undo-clause-stopped g c =
    let a = c.args.machine.now in
    let m = c.loop-notes.machine in
    let next = subst (IsNext c.args.budget m.engine.now.state m.search.now) c.in-Undo.is c.in_ok-end.ensures in
    let cut = c.in_err-undo_latest-in-Undo.ensures in
    on_err _ c.from_residual-in_err-undo_latest-in-Undo.result
    (rw cut.keeps.quiet.order (cut_undoing_by g.G.Guide.answers g.G.Guide.hears g.G.Guide.state a.guide.now m.guide.now c.undo_latest.new.self.guide.now a.order.now m.order.now c.args.budget a.engine.now.state m.engine.now.state c.undo_latest.new.self.engine.now.state m.search.now c.undo_latest.new.self.search.now
    c.in-Undo.conflict (left_by c.loop-notes.invariant.proving) next.0 next.1 cut.err cut.stopped))

pub returns-in_err-undo_latest-in-Undo-clause-ran : goal.returns-in_err-undo_latest-in-Undo-clause-ran
returns-in_err-undo_latest-in-Undo-clause-ran g c = has_run_on c.store-store.ensures.valid c.loop-notes.invariant.runs c.undo_latest.ensures.keeps

pub returns-in_err-undo_latest-in-Undo-clause-stops : goal.returns-in_err-undo_latest-in-Undo-clause-stops
returns-in_err-undo_latest-in-Undo-clause-stops g c =
    let m = c.loop-notes.machine in
    let proving = c.loop-notes.invariant.proving in
    let next = subst (IsNext c.args.budget m.engine.now.state m.search.now) c.in-Undo.is c.in_ok-end.ensures in
    let conflict = c.in-Undo.conflict in
    let now = g.K.Sink.state c.write_lemma.new.out in
    undoing_stops proving conflict c.undo_latest.new.self.engine.now.state c.undo_latest.new.self.search.now (text_here proving conflict next.1.var) now c.from_residual-in_err-undo_latest-in-Undo.result
    (stopped_with _ _ c.from_residual-in_err-undo_latest-in-Undo.ensures.1) c.in_err-undo_latest-in-Undo.ensures.err (a_lemma conflict next.0 next.2 (lemma_here proving conflict next.1))
    (lemma_written proving conflict c.as_slice.result.now next.1 now (Ok tt) c.as_slice.ensures c.in_ok-write_lemma-in-Undo.ensures.lemma)

pub returns-in_err-note_last-in-Undo-clause-stopped : goal.returns-in_err-note_last-in-Undo-clause-stopped
returns-in_err-note_last-in-Undo-clause-stopped g c =
    let a = c.args.machine.now in
    let m = c.loop-notes.machine in
    let next = subst (IsNext c.args.budget m.engine.now.state m.search.now) c.in-Undo.is c.in_ok-end.ensures in
    let done = c.in_ok-undo_latest-in-Undo.ensures in
    let turn = TurnUndo done.ok.0 c.in-Undo.conflict in
    let after = c.undo_latest.new.self.engine.now.state in
    let takes = subst (λ b. TakesTurn b turn m.engine.now.state m.search.now after c.undo_latest.new.self.search.now) c.loop-notes.invariant.runs.lent.guide done.ok.1 in
    on_err _ c.from_residual-in_err-note_last-in-Undo.result
    (rw done.keeps.quiet.order (cut_settling_by a.guide.now m.guide.now c.undo_latest.new.self.guide.now a.order.now m.order.now m.order.now c.args.budget a.engine.now.state m.engine.now.state m.search.now turn after after c.undo_latest.new.self.search.now
    (left_by c.loop-notes.invariant.proving) next.0 takes done.told (order_silent m.order.now after)))

pub returns-in_err-note_last-in-Undo-clause-ran : goal.returns-in_err-note_last-in-Undo-clause-ran
returns-in_err-note_last-in-Undo-clause-ran g c = has_run_on c.store-store.ensures.valid c.loop-notes.invariant.runs c.undo_latest.ensures.keeps

pub returns-in_err-note_last-in-Undo-clause-stops : goal.returns-in_err-note_last-in-Undo-clause-stops
returns-in_err-note_last-in-Undo-clause-stops g c =
    let m = c.loop-notes.machine in
    let proving = c.loop-notes.invariant.proving in
    let next = subst (IsNext c.args.budget m.engine.now.state m.search.now) c.in-Undo.is c.in_ok-end.ensures in
    let conflict = c.in-Undo.conflict in
    let now = g.K.Sink.state c.write_lemma.new.out in
    let done = c.in_ok-undo_latest-in-Undo.ensures.ok in
    turn_stops proving (TurnUndo done.0 conflict) c.undo_latest.new.self.search.now (text_here proving conflict next.1.var) now c.from_residual-in_err-note_last-in-Undo.result (stopped_with _ _ c.from_residual-in_err-note_last-in-Undo.ensures.1) done.1.journal
    (a_lemma conflict next.0 next.2 (lemma_here proving conflict next.1)) (lemma_written proving conflict c.as_slice.result.now next.1 now (Ok tt) c.as_slice.ensures c.in_ok-write_lemma-in-Undo.ensures.lemma)

-- ---- the settling after a turn

-- the turn that was taken before it, in one of the two ways, and its lemma
argued : (g : given.Over) (c : After-settle-in-loop-notes g)
    → HasArgued (guiding g) c.args.budget c.args.book.now c.loop-notes.machine.engine.now c.match-branch-4.machine.engine.now c.loop-notes.machine.search.now c.match-branch-4.machine.search.now c.loop-notes.machine.guide.now c.match-branch-4.machine.guide.now c.loop-notes.invariant.proving.argued c.match-branch-4.notes.numbers
    (g.K.Sink.state c.loop-notes.out) (g.K.Sink.state c.match-branch-4.out)
argued g c =
    let m = c.loop-notes.machine in
    let proving = c.loop-notes.invariant.proving in
    let answers = g.G.Guide.answers in
    let hears = g.G.Guide.hears in
    let state = g.G.Guide.state in
    let book = c.args.book.now in
    let can = c.in_ok-end.ensures in
    elim c.match-branch-4.branch [
      | in-Decide+in_ok-decide-in-Decide w ↦
          let done = w.in_ok-decide-in-Decide.ensures in
          rw (w.machine-is, w.notes-is, w.out-is)
          (argued_deciding answers hears state c.args.budget book m.engine.now _ m.search.now _ m.guide.now _ _ can proving.argued c.loop-notes.notes.numbers (g.K.Sink.state c.loop-notes.out) w.in_ok-decide-in-Decide.field-0 w.in-Decide.is done.ok done.keeps.decisions done.keeps.quiet.counts done.keeps.quiet.stays proving.numbered)
      | in-Undo+in_ok-write_lemma-in-Undo+in_ok-undo_latest-in-Undo+in_ok-note_last-in-Undo w ↦
          let done = w.in_ok-undo_latest-in-Undo.ensures in
          let conflict = w.in-Undo.conflict in
          let next = subst (IsNext c.args.budget m.engine.now.state m.search.now) w.in-Undo.is can in
          let now = g.K.Sink.state w.write_lemma.new.out in
          let numbered = subst (λ (n : LemmaNumbers). AreNumbers proving.argued.undone n) (sym w.in_ok-write_lemma-in-Undo.ensures.numbers) proving.numbered in
          rw (w.machine-is, w.notes-is, w.out-is)
          (argued_undoing answers hears state c.args.budget book m.engine.now _ m.search.now _ m.guide.now _ _ can proving.argued _ (g.K.Sink.state c.loop-notes.out) conflict (text_here proving conflict next.1.var) now w.in-Undo.is (lemma_here proving conflict next.1)
          (lemma_written proving conflict w.as_slice.result.now next.1 now (Ok tt) w.as_slice.ensures w.in_ok-write_lemma-in-Undo.ensures.lemma) done.ok done.told done.keeps.decisions done.keeps.quiet.counts done.keeps.quiet.stays
          (w.in_ok-note_last-in-Undo.ensures proving.argued.undone m.search.now.journal done.ok.0 conflict (w.journal.ensures ∙ done.ok.1.journal) numbered))
    ]

-- and nothing was settled in it
quiet : (g : given.Over) (c : After-settle-in-loop-notes g) → KeepsOrder c.loop-notes.machine c.match-branch-4.machine
quiet g c = elim c.match-branch-4.branch [
  | in-Decide+in_ok-decide-in-Decide w ↦ rw w.machine-is w.in_ok-decide-in-Decide.ensures.keeps.quiet
  | in-Undo+in_ok-write_lemma-in-Undo+in_ok-undo_latest-in-Undo+in_ok-note_last-in-Undo w ↦ rw w.machine-is w.in_ok-undo_latest-in-Undo.ensures.keeps.quiet
]

pub loop-notes-smaller : goal.loop-notes-smaller
loop-notes-smaller g c =
    let taken = (argued g (goal.at.loop-notes-smaller g c).After-settle-in-loop-notes).taken in
    rw c.settle-in-loop-notes.ensures.search (fewer_left c.loop-notes.machine.search.now.journal c.match-branch-4.machine.search.now.journal taken.turn c.args.budget taken.left taken.takes.journal)

pub loop-notes-preserved : goal.loop-notes-preserved
loop-notes-preserved g c =
    let a = c.args.machine.now in
    let m = c.loop-notes.machine in
    let t = c.match-branch-4.machine in
    let n = c.settle-in-loop-notes.new.self in
    let so_far = c.loop-notes.invariant in
    let at = (goal.at.loop-notes-preserved g c).After-settle-in-loop-notes in
    let settle = c.settle-in-loop-notes.ensures in
    let settled = settled_on (ordering g) (is_some a.order.now) c.in_ok-settle-2.field-0 m t n so_far.runs.lent.order (quiet g at) c.in_ok-settle-2.ensures.ok in
    record {
      proving = rw (settle.search, settle.guide) (proving_goes_on (guiding g) (ordering g) a.guide.now m.guide.now t.guide.now a.order.now m.order.now n.order.now c.args.budget c.args.book.now a.engine.now.state
          m.engine.now m.search.now c.in_ok-settle-2.field-0 t.engine.now n.engine.now t.search.now c.loop-notes.notes.numbers c.match-branch-4.notes.numbers
          (g.K.Sink.state c.args.out.now) (g.K.Sink.state c.loop-notes.out) (g.K.Sink.state c.match-branch-4.out) so_far.proving so_far.runs.lent.guide (argued g at) settled);
      runs = runs_then so_far.runs (quiet g at) settle.runs;
    }

pub returns-in_err-settle-2-clause-stopped : goal.returns-in_err-settle-2-clause-stopped
returns-in_err-settle-2-clause-stopped g c =
    let a = c.args.machine.now in
    let m = c.loop-notes.machine in
    let t = c.match-branch-4.machine in
    let n = c.settle-in-loop-notes.new.self in
    let so_far = c.loop-notes.invariant in
    let at = (goal.at.returns-in_err-settle-2-clause-stopped g c).After-settle-in-loop-notes in
    let taken = (argued g at).taken in
    let takes = subst (λ b. TakesTurn b taken.turn m.engine.now.state m.search.now t.engine.now.state t.search.now) so_far.runs.lent.guide taken.takes in
    on_err _ c.from_residual-in_err-settle-2.result (rw (c.settle-in-loop-notes.ensures.search, c.settle-in-loop-notes.ensures.guide)
    (cut_settling_by a.guide.now m.guide.now t.guide.now a.order.now m.order.now n.order.now c.args.budget a.engine.now.state m.engine.now.state m.search.now taken.turn t.engine.now.state n.engine.now.state
    t.search.now (left_by so_far.proving) taken.left takes taken.step (order_stops m.order.now n.order.now t.engine.now n.engine.now (broken_on m t n (quiet g at) c.in_err-settle-2.ensures.err))))

pub returns-in_err-settle-2-clause-stops : goal.returns-in_err-settle-2-clause-stops
returns-in_err-settle-2-clause-stops g c =
    let at = (goal.at.returns-in_err-settle-2-clause-stops g c).After-settle-in-loop-notes in
    let turned = argued g at in
    rw c.settle-in-loop-notes.ensures.search (turn_stops c.loop-notes.invariant.proving turned.taken.turn c.match-branch-4.machine.search.now turned.more (g.K.Sink.state c.match-branch-4.out) c.from_residual-in_err-settle-2.result (stopped_with _ _ c.from_residual-in_err-settle-2.ensures.1)
    turned.taken.takes.journal turned.follows turned.writes)

pub returns-in_err-settle-2-clause-ran : goal.returns-in_err-settle-2-clause-ran
returns-in_err-settle-2-clause-ran g c =
    let a = c.args.machine.now in
    let m = c.loop-notes.machine in
    let t = c.match-branch-4.machine in
    let n = c.settle-in-loop-notes.new.self in
    let so_far = c.loop-notes.invariant in
    let at = (goal.at.returns-in_err-settle-2-clause-ran g c).After-settle-in-loop-notes in
    let cut = interrupted_on (is_some a.order.now) m t n so_far.runs.lent.order (quiet g at) c.in_err-settle-2.ensures.err in
    let settle = c.settle-in-loop-notes.ensures in
    record {
      before = c.store-store.ensures.valid;
      on = runs_then so_far.runs (quiet g at) settle.runs;
      decisions = rw settle.search (interrupted_has (is_some a.order.now) t.engine.now n.engine.now t.search.now cut (argued g at).taken.decisions);
    }
