use Rattle.std.proofs.Common.{◌<◌, length, arith}
use Rattle.palm_lang.specs.Reply.{entry_line}
use Rattle.palm_lang.proofs.cited.Wrote.{wrote_all, wrote_more, wrote_part, wrote_text}
use Rattle.palm_session.proofs.Delivering.{entry_read}
use Rattle.palm_session.proofs.deliver.write_constraints.Goals as goal

pub returns-in_err-entry : goal.returns-in_err-entry
returns-in_err-entry g c =
    let book = c.args.book.now in
    let lt : c.loop-place.place < length book.constraints = omega (arith, c.loop-place-test.true, c.constraints-place-end.ensures.count) in
    let r = entry_read book c.loop-place.place lt in
    wrote_part (entry_line book.variables) book.constraints c.loop-place.place r.0 lt c.from_residual.ensures.1 c.loop-place.invariant (wrote_text r.1 c.in_err-entry.ensures)

pub loop-place-preserved : goal.loop-place-preserved
loop-place-preserved g c =
    let book = c.args.book.now in
    let lt : c.loop-place.place < length book.constraints = omega (arith, c.loop-place-test.true, c.constraints-place-end.ensures.count) in
    let r = entry_read book c.loop-place.place lt in
    wrote_more (entry_line book.variables) book.constraints c.loop-place.place r.0 lt c.loop-place.invariant (wrote_text r.1 c.in_ok-entry.ensures)

pub returns : goal.returns
returns g c =
    let book = c.args.book.now in
    wrote_all (entry_line book.variables) book.constraints c.loop-place.place (omega (arith, c.loop-place-test.false, c.constraints-place-end.ensures.count)) c.loop-place.invariant
