use Rattle.std.proofs.Common.{refl, ap}
use Rattle.std.specs.Prelude.{is_some}
use Rattle.palm_search.specs.Calls.{SearchView, search_state}
use Rattle.palm_search.specs.Stopping.GuideStops.{stops_silent}
use Rattle.palm_search.specs.Stopping.GuideStopsAt.{stops_between, stops_in_turn}
use Rattle.palm_search.specs.declared.turn.Turn.TheVariants.{Decide as TurnDecide}
use Rattle.palm_search.proofs.cited.Results.{on_err}
use Rattle.palm_search.proofs.cited.Stopping.{decision_stops}
use Rattle.palm_repair.proofs.Stepping.{decided_cut, decided_ready}
use Rattle.palm_repair.proofs.turns.advance.Goals as goal

pub post-requires-clause-repairing : goal.post-requires-clause-repairing
post-requires-clause-repairing g c =
    let a = c.args.machine.now in
    let decided = c.in_ok-decide-in-Decide in
    let turn = decided.ensures.ok in
    decided_ready (is_some a.guide.now) a.engine.now.state c.decide.new.self.engine.now.state a.search.now c.decide.new.self.search.now c.args.learned.now decided.field-0 turn.0 turn.2 c.requires.ready.at.repairing

pub returns-in_err-end-clause-stopped : goal.returns-in_err-end-clause-stopped
returns-in_err-end-clause-stopped g c =
    on_err _ c.from_residual.result (stops_between refl (stops_silent refl))

pub returns-in_err-decide-in-Decide-clause-stopped : goal.returns-in_err-decide-in-Decide-clause-stopped
returns-in_err-decide-in-Decide-clause-stopped g c =
    let a = c.args.machine.now in
    let cut = c.in_err-decide-in-Decide.ensures in
    on_err _ c.from_residual-in_err-decide-in-Decide.result
    (stops_between (ap (λ (v : SearchView). v.journal) cut.err.1) (decision_stops (search_state a.engine.now.state a.search.now) a.guide.now c.decide.new.self.guide.now cut.asked))

pub returns-in_err-post-in-Decide-clause-stopped : goal.returns-in_err-post-in-Decide-clause-stopped
returns-in_err-post-in-Decide-clause-stopped g c =
    let decided = c.in_ok-decide-in-Decide in
    let turn = decided.ensures.ok in
    on_err _ c.from_residual-in_err-post-in-Decide.result (stops_in_turn (TurnDecide decided.field-0 turn.0) turn.2.journal turn.1)

pub returns-in_err-take_back-in-Undo-clause-stopped : goal.returns-in_err-take_back-in-Undo-clause-stopped
returns-in_err-take_back-in-Undo-clause-stopped g c =
    on_err _ c.from_residual-in_err-take_back-in-Undo.result c.in_err-take_back-in-Undo.ensures.stopped

pub returns-in_err-post-in-Decide-clause-err : goal.returns-in_err-post-in-Decide-clause-err
returns-in_err-post-in-Decide-clause-err g c =
    let a = c.args.machine.now in
    let decided = c.in_ok-decide-in-Decide in
    let turn = decided.ensures.ok in
    on_err _ c.from_residual-in_err-post-in-Decide.result
    (decided_cut (is_some a.guide.now) c.args.tabu a.engine.now.state c.decide.new.self.engine.now.state c.post.new.engine.state a.search.now c.decide.new.self.search.now c.args.learned.now decided.field-0 turn.0 turn.2
    c.requires.ready.at.repairing c.in_err-post-in-Decide.ensures.err)
