use Rattle.std.proofs.Common.{◌∙◌, List, ℕ, subst}
use Rattle.std.proofs.lemmas.Result.{err_from_is_err_and}
use Rattle.palm_base.specs.Streams.{Appended}
use Rattle.palm_cli.proofs.InnerLines.{all_posing, all_easing}
use Rattle.palm_cli.proofs.SummaryLemmas.{wants, stops_heading, first_stops, second_ends, fresh_state, keeps_state, starts, starts_open, starts_whole}
use Rattle.palm_cli.specs.Generator.{posing_lines, easing_lines}
use Rattle.palm_cli.proofs.generator.summarize.Goals as goal

pub returns-in_err-heading : goal.returns-in_err-heading
returns-in_err-heading g c =
    let p = err_from_is_err_and c.from_residual.result c.from_residual.ensures.1 in
    rw (p.1, p.2) (wants c.args.size (g.K.Sink.state c.args.sink.now))

pub returns-in_err-posing : goal.returns-in_err-posing
returns-in_err-posing g c =
    let p = err_from_is_err_and c.from_residual-in_err-posing.result c.from_residual-in_err-posing.ensures.1 in
    rw (p.1, p.2) (wants c.args.size (g.K.Sink.state c.args.sink.now))

pub returns-in_err-easing : goal.returns-in_err-easing
returns-in_err-easing g c =
    let p = err_from_is_err_and c.from_residual-in_err-easing.result c.from_residual-in_err-easing.ensures.1 in
    rw (p.1, p.2) (wants c.args.size (g.K.Sink.state c.args.sink.now))

pub returns-in_err-solve : goal.returns-in_err-solve
returns-in_err-solve g c =
    let p = err_from_is_err_and c.from_residual-in_err-solve.result c.from_residual-in_err-solve.ensures.1 in
    rw (p.1, p.2) (wants c.args.size (g.K.Sink.state c.args.sink.now))

pub returns-in-Err : goal.returns-in-Err
returns-in-Err g c = stops_heading c.args.size (g.K.Sink.state c.args.sink.now) (g.K.Sink.state c.write_all.new.sink) _ (c.as_bytes.ensures.value ∙ c.in_ok-heading.ensures) c.in-Err.ensures.cause.failed c.in-Err.ensures.bytes

pub solve_after-requires-clause-going : goal.solve_after-requires-clause-going
solve_after-requires-clause-going g c = starts_open _ _ c.requires.fresh

pub solve_after-requires-clause-whole : goal.solve_after-requires-clause-whole
solve_after-requires-clause-whole g c = starts_whole _ _ c.requires.fresh

pub solve_after-requires-clause-text : goal.solve_after-requires-clause-text
solve_after-requires-clause-text g c = (posing_lines c.args.size, record { whole = c.as_bytes-first.ensures.value ∙ c.in_ok-posing.ensures; inner = all_posing c.args.size c.requires.few })

pub solve_after-requires-clause-solve : goal.solve_after-requires-clause-solve
solve_after-requires-clause-solve g c = c.as_bytes-solve.ensures.value ∙ c.in_ok-solve.ensures

pub returns-in_err-solve_after : goal.returns-in_err-solve_after
returns-in_err-solve_after g c =
    let p = err_from_is_err_and c.from_residual-in_err-solve_after.result c.from_residual-in_err-solve_after.ensures.1 in
    let heading = subst (λ (z : List ℕ). Appended (g.K.Sink.state c.args.sink.now).written (g.K.Sink.state c.write_all.new.sink).written z) (c.as_bytes.ensures.value ∙ c.in_ok-heading.ensures) c.in-Ok.ensures.bytes in
    rw (p.1, p.2)
    (first_stops (Unit {0}) (Unit {0}) c.args.size (g.K.Sink.state c.args.sink.now) (g.K.Sink.state c.write_all.new.sink) (g.K.Sink.state c.solve_after.new.sink) c.args.session.now c.solve_after.new.session c.in_err-solve_after.field-0.0
    (starts _ _ c.requires.fresh) c.in-Ok.ensures.cause.ok heading (c.in_err-solve_after.ensures (posing_lines c.args.size) (record { whole = c.as_bytes-first.ensures.value ∙ c.in_ok-posing.ensures; inner = all_posing c.args.size c.requires.few })))

pub solve_after-requires-2-clause-going : goal.solve_after-requires-2-clause-going
solve_after-requires-2-clause-going g c = (c.in_ok-solve_after.ensures (posing_lines c.args.size) (record { whole = c.as_bytes-first.ensures.value ∙ c.in_ok-posing.ensures; inner = all_posing c.args.size c.requires.few })).3

pub solve_after-requires-2-clause-whole : goal.solve_after-requires-2-clause-whole
solve_after-requires-2-clause-whole g c = (c.in_ok-solve_after.ensures (posing_lines c.args.size) (record { whole = c.as_bytes-first.ensures.value ∙ c.in_ok-posing.ensures; inner = all_posing c.args.size c.requires.few })).2

pub solve_after-requires-2-clause-text : goal.solve_after-requires-2-clause-text
solve_after-requires-2-clause-text g c = (easing_lines c.args.size, record { whole = c.as_bytes-second.ensures.value ∙ c.in_ok-easing.ensures; inner = all_easing c.args.size })

pub solve_after-requires-2-clause-solve : goal.solve_after-requires-2-clause-solve
solve_after-requires-2-clause-solve g c = c.as_bytes-solve.ensures.value ∙ c.in_ok-solve.ensures

pub returns : goal.returns
returns g c =
    let heading = subst (λ (z : List ℕ). Appended (g.K.Sink.state c.args.sink.now).written (g.K.Sink.state c.write_all.new.sink).written z) (c.as_bytes.ensures.value ∙ c.in_ok-heading.ensures) c.in-Ok.ensures.bytes in
    second_ends c.in_ok-solve_after.field-0 c.args.size (g.K.Sink.state c.args.sink.now) (g.K.Sink.state c.write_all.new.sink) (g.K.Sink.state c.solve_after.new.sink) (g.K.Sink.state c.solve_after-2.new.sink)
    c.args.session.now c.solve_after.new.session c.solve_after-2.new.session c.solve_after-2.result (starts _ _ c.requires.fresh) c.in-Ok.ensures.cause.ok heading
    (c.in_ok-solve_after.ensures (posing_lines c.args.size) (record { whole = c.as_bytes-first.ensures.value ∙ c.in_ok-posing.ensures; inner = all_posing c.args.size c.requires.few })) (c.solve_after-2.ensures (easing_lines c.args.size) (record { whole = c.as_bytes-second.ensures.value ∙ c.in_ok-easing.ensures; inner = all_easing c.args.size }))

pub solve_after-requires-clause-state : goal.solve_after-requires-clause-state
solve_after-requires-clause-state g c = fresh_state c.args.session.now c.requires.fresh

pub solve_after-requires-2-clause-state : goal.solve_after-requires-2-clause-state
solve_after-requires-2-clause-state g c =
    keeps_state _ _ _ _ _ (fresh_state c.args.session.now c.requires.fresh)
    (c.in_ok-solve_after.ensures (posing_lines c.args.size) (record { whole = c.as_bytes-first.ensures.value ∙ c.in_ok-posing.ensures; inner = all_posing c.args.size c.requires.few })).1
