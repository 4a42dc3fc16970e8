use Rattle.palm_cert.specs.Certificate.{step_line}
use Rattle.palm_cert.specs.Needs.{removals_at}
use Rattle.palm_cert.proofs.cited.Stepped.{step_placed, text_at, texts_at}
use Rattle.palm_lang.proofs.cited.Wrote.{wrote_all, wrote_part, wrote_text}
use Rattle.palm_cert.proofs.certificate.write_steps.Goals as goal

pub write_step-requires : goal.write_step-requires
write_step-requires g c = step_placed c.args.log.now.log c.args.steps.now c.requires.steps c.args.book.now _ c.requires.logged c.loop-place.place-index c.loop-place-test.true

pub returns-in_err-write_step : goal.returns-in_err-write_step
returns-in_err-write_step g c =
    let log = c.args.log.now.log in
    let steps = c.args.steps.now in
    let line = step_line c.args.book.now (removals_at log steps) in
    wrote_text (texts_at line log steps) (wrote_part (text_at line log) steps c.loop-place.place-index 0 c.loop-place-test.true c.from_residual.ensures.1 c.loop-place.invariant c.in_err-write_step.ensures)

pub returns : goal.returns
returns g c =
    let log = c.args.log.now.log in
    let steps = c.args.steps.now in
    let line = step_line c.args.book.now (removals_at log steps) in
    wrote_text (texts_at line log steps) (wrote_all (text_at line log) steps c.loop-place.place-index c.loop-place-test.false c.loop-place.invariant)
