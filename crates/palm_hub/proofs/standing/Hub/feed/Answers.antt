-- Each turn of the loop takes one line, and what stands behind the last line feed is taken behind it.
use Rattle.std.proofs.Common.{◌∙◌, Err, arith, refl}
use Rattle.std.proofs.lemmas.Result.{err_from_is_err_and}
use Rattle.palm_hub.proofs.Feeding.{calm_since, quiet_until, rest_taken, taken_line, taken_none, taken_until}
use Rattle.palm_hub.proofs.standing.Hub.feed.Goals as goal

pub loop-end-init : goal.loop-end-init
loop-end-init g c = record { within = omega arith; calm = refl; taken = taken_none _ _ _ }

pub loop-end-preserved : goal.loop-end-preserved
loop-end-preserved g c =
    let taken = c.loop-end.invariant.taken in
    let feed = c.in-Some.ensures.found in
    let part = c.in_ok-take_part.ensures in
    let line = c.in_ok-end_line.ensures in
    record {
      within = omega (arith, feed.within);
      calm = line.counted ∙ part.quiet.counted ∙ c.loop-end.invariant.calm;
      taken = taken_line taken feed part.quiet.written part.stands line.answers;
    }

pub returns-in_err-take_part-clause-stopped : goal.returns-in_err-take_part-clause-stopped
returns-in_err-take_part-clause-stopped g c =
    let p = err_from_is_err_and c.from_residual.result c.from_residual.ensures.1 in
    let state = g.K.Sink.state in
    let before = c.loop-end.invariant in
    rw (p.1, p.2)
    (quiet_until (state c.args.sink.now) (state c.loop-end.sink) (state c.take_part.new.sink) before.taken
    (Err c.in_err-take_part.field-0.0) before.calm c.in_err-take_part.ensures.quiet)

pub returns-in_err-end_line-clause-stopped : goal.returns-in_err-end_line-clause-stopped
returns-in_err-end_line-clause-stopped g c =
    let p = err_from_is_err_and c.from_residual-in_err-end_line.result c.from_residual-in_err-end_line.ensures.1 in
    let before = c.loop-end.invariant in
    let part = c.in_ok-take_part.ensures in
    let same = part.quiet.counted ∙ before.calm in
    rw (p.1, p.2)
    (λ sessions seen free stands calm.
    taken_until before.taken c.in-Some.ensures.found part.quiet.written part.stands
    (λ hub line unbroken behind. c.in_err-end_line.ensures.stopped hub line unbroken behind (calm_since same calm))
    sessions seen free stands)

pub returns-clause-answers : goal.returns-clause-answers
returns-clause-answers g c =
    let state = g.K.Sink.state in
    let part = c.take_part-2.ensures in
    rest_taken (state c.args.sink.now) (state c.loop-end.sink) (state c.take_part-2.new.sink) c.loop-end.invariant.taken
    c.take_part-2.result c.take_part-2.new.self c.in_default.ensures.none part.quiet part.stands

pub returns-clause-stopped : goal.returns-clause-stopped
returns-clause-stopped g c =
    let state = g.K.Sink.state in
    let before = c.loop-end.invariant in
    quiet_until (state c.args.sink.now) (state c.loop-end.sink) (state c.take_part-2.new.sink) before.taken
    c.take_part-2.result before.calm c.take_part-2.ensures.quiet
