use Rattle.std.proofs.Common.{Option, is_some, refl, rules, ap, ◌∙◌, arith}
use Rattle.palm_engine.specs.Following.{Hearing, OrderFollows}
use Rattle.palm_engine.proofs.cited.Walking.{filters_none}
use Rattle.palm_events.proofs.cited.Reasons.{reasons_right}
use Rattle.palm_lang.specs.declared.stop.WriteStop.TheVariants.{NoMemory}
use Rattle.palm_search.specs.Breaking.{BreaksOff}
use Rattle.palm_search.specs.Calls.{SearchView}
use Rattle.palm_search.specs.Machine.{state_of}
use Rattle.palm_search.specs.Stopping.BreaksOffBy.{by_last_settling, by_run}
use Rattle.palm_search.proofs.cited.Breaking.{broken_at_end, broken_leaves, searches_leaves}
use Rattle.palm_search.proofs.cited.Lending.{broken_on, interrupted_on, runs_then, runs_turned, settled_on}
use Rattle.palm_search.proofs.cited.Results.{on_err}
use Rattle.palm_search.proofs.cited.Running.{interrupted_filters}
use Rattle.palm_search.proofs.cited.Stopping.{order_stops}
use Rattle.palm_dbt.proofs.cited.Answering.{answer_true}
use Rattle.proof_write.proofs.Fitting.{book_users}
use Rattle.proof_write.proofs.Running.{accepted_at, behind_end, cut_off, ended_quietly, run_proves, stopped_with}
use Rattle.proof_write.proofs.proving.prove_by.Given as given
use Rattle.proof_write.proofs.proving.prove_by.Goals as goal

-- the order's own relations
abbrev ordering : (g : given.Over) → Hearing → Option g.row.O.Denot → Option g.row.O.Denot → Type 0
ordering g = OrderFollows g.O.Order.answers g.O.Order.hears g.O.Order.state

-- the run stopped
pub returns-in_err-end : goal.returns-in_err-end
returns-in_err-end g c =
    let a = c.args.machine.now in
    let e = c.run-end.new.machine in
    let n = c.close.new.self in
    let guided = is_some a.guide.now in
    let ordered = is_some a.order.now in
    let s = a.engine.now.state in
    let run = c.run-end.ensures in
    let close = c.close.ensures in
    let turns = e.search.now.journal in
    let result = c.from_residual.result in
    let broken : BreaksOff guided ordered c.args.budget s turns n.engine.now.state = record {
      cut = e.engine.now.state;
      is = cut_off c.in_err-end.ensures.stopped;
      middle = n.engine.now.state;
      withdraws = close.withdraws;
      filters = filters_none n.engine.now.state;
    } in
    record {
      ok = search rules;
      holds = search rules;
      err = on_err _ result (rw close.journal broken);
      stopped = on_err _ result (rw (close.journal, close.guide, close.keeps.order) (by_run e.engine.now.state c.in_err-end.ensures.stopped close.withdraws));
      front = rw close.journal (search rules);
      counted = search rules;
      sink = search rules;
      gives = record {
        leaves = broken_leaves reasons_right guided ordered c.args.budget s turns n.engine.now.state n.search.now result (book_users c.args.book.now s c.requires.listed.active) run.ran.before broken close.valid close.decisions (search rules);
        on = runs_turned run.ran.on close.keeps;
      };
    }

-- memory ran out in the last settling
pub returns-in_err-settle : goal.returns-in_err-settle
returns-in_err-settle g c =
    let a = c.args.machine.now in
    let e = c.run-end.new.machine in
    let n = c.close.new.self in
    let t = c.settle.new.self in
    let book = c.args.book.now in
    let guided = is_some a.guide.now in
    let ordered = is_some a.order.now in
    let s = a.engine.now.state in
    let run = c.run-end.ensures in
    let ran = c.in_ok-end.ensures in
    let close = c.close.ensures in
    let settle = c.settle.ensures in
    let turns = e.search.now.journal in
    let result = c.from_residual-in_err-settle.result in
    let stops = stopped_with result NoMemory c.from_residual-in_err-settle.ensures.1 in
    let cut = interrupted_on (is_some e.order.now) e n t refl close.keeps c.in_err-settle.ensures.err in
    let broken = broken_at_end guided ordered c.args.budget s turns c.in_ok-end.end (state_of e) n.engine.now.state t.engine.now.state ran.ok.by.run close.withdraws
    (interrupted_filters (is_some e.order.now) n.engine.now t.engine.now cut) in
    let quiet = ended_quietly book guided ordered c.args.budget s turns (g.K.Sink.state c.args.out.now) (g.K.Sink.state c.run-end.new.out) c.in_ok-end.end result stops (behind_end ran.ok) ran.stops.counted ran.stops.sink in
    record {
      ok = search rules;
      holds = search rules;
      err = on_err _ result (rw (settle.search, close.journal) broken);
      stopped = on_err _ result (rw (settle.search, close.journal, settle.guide, close.guide) (by_last_settling (state_of e) c.in_ok-end.end n.engine.now.state e.order.now ran.ok.by close.withdraws
          (order_stops e.order.now t.order.now n.engine.now t.engine.now (broken_on e n t close.keeps c.in_err-settle.ensures.err))));
      front = rw (settle.search, close.journal) quiet.front;
      counted = quiet.counted;
      sink = quiet.sink;
      gives = record {
        leaves = broken_leaves reasons_right guided ordered c.args.budget s turns t.engine.now.state t.search.now result (book_users book s c.requires.listed.active) run.ran.before broken settle.valid
            (ap (λ (v : SearchView). v.decisions) settle.search ∙ close.decisions) (search rules);
        on = runs_then run.ran.on close.keeps settle.runs;
      };
    }

-- an answer
pub returns : goal.returns
returns g c =
    let a = c.args.machine.now in
    let e = c.run-end.new.machine in
    let n = c.close.new.self in
    let t = c.settle.new.self in
    let book = c.args.book.now in
    let guided = is_some a.guide.now in
    let ordered = is_some a.order.now in
    let s = a.engine.now.state in
    let end = c.in_ok-end.end in
    let users = book_users book s c.requires.listed.active in
    let run = c.run-end.ensures in
    let ran = c.in_ok-end.ensures in
    let close = c.close.ensures in
    let settle = c.settle.ensures in
    let turns = e.search.now.journal in
    let settled = settled_on (ordering g) ordered c.in_ok-settle.field-0 e n t run.ran.on.lent.order close.keeps c.in_ok-settle.ensures.ok in
    let proves = run_proves ran.ok t.order.now c.in_ok-settle.field-0 n.engine.now t.engine.now close.withdraws settled in
    let accepted = accepted_at c.args.budget book s turns end t.engine.now.state ran.ok.text c.variables.ensures.valid run.ran.before c.requires.listed.initial c.requires.listed.active run.scoped (omega (arith, c.ranges.budget.fits)) proves in
    let searches = proves.by.searches in
    record {
      ok = rw (settle.search, close.journal, settle.guide, close.guide) (record { text = ran.ok.text; proves = proves; accepted = accepted; written = ran.ok.written });
      holds = answer_true reasons_right guided ordered c.args.budget s turns t.engine.now.state end users run.ran.before searches;
      err = tt;
      stopped = tt;
      front = tt;
      counted = ran.stops.counted;
      sink = ran.stops.sink;
      gives = record {
        leaves = searches_leaves reasons_right guided ordered c.args.budget s turns end t.engine.now.state t.search.now end users run.ran.before searches settle.valid
            (ap (λ (v : SearchView). v.decisions) settle.search ∙ close.decisions);
        on = runs_then run.ran.on close.keeps settle.runs;
      };
    }
