use Rattle.std.proofs.Common.{◌<◌, length, arith, refl}
use Rattle.palm_session.specs.Answers.{log_line}
use Rattle.palm_lang.proofs.cited.Wrote.{wrote_all, wrote_front, wrote_more, wrote_part, wrote_text, wrote_then}
use Rattle.palm_session.proofs.Logging.{line_read}
use Rattle.palm_session.proofs.deliver.write_removals.Goals as goal

pub returns-in_err-write_removal : goal.returns-in_err-write_removal
returns-in_err-write_removal g c =
    let log = c.args.log.now.log in
    let lt : c.loop-place.place < length log = omega (arith, c.loop-place-test.true, c.removals-place-end.ensures.count) in
    let r = line_read c.args.book.now log c.loop-place.place lt in
    wrote_front {T = Unit {0}} _ c.from_residual.ensures.1
    (wrote_part (log_line c.args.book.now) log c.loop-place.place r.0 lt refl c.loop-place.invariant (wrote_text r.1 c.in_err-write_removal.ensures))

pub loop-place-preserved : goal.loop-place-preserved
loop-place-preserved g c =
    let log = c.args.log.now.log in
    let lt : c.loop-place.place < length log = omega (arith, c.loop-place-test.true, c.removals-place-end.ensures.count) in
    let r = line_read c.args.book.now log c.loop-place.place lt in
    wrote_more (log_line c.args.book.now) log c.loop-place.place r.0 lt c.loop-place.invariant (wrote_text r.1 c.in_ok-write_removal.ensures)

pub returns : goal.returns
returns g c =
    let log = c.args.log.now.log in
    wrote_then (wrote_all (log_line c.args.book.now) log c.loop-place.place (omega (arith, c.loop-place-test.false, c.removals-place-end.ensures.count)) c.loop-place.invariant) c.word.ensures
