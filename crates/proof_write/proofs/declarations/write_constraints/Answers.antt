use Rattle.std.proofs.Common.{Bool}
use Rattle.palm_book.specs.declared.book.BookCon.{BookCon}
use Rattle.palm_cert.specs.Certificate.{added_line}
use Rattle.palm_cert.proofs.cited.Filtered.{wrote_failed, wrote_passed, wrote_stopped}
use Rattle.proof_write.proofs.declarations.write_constraints.Goals as goal
use Rattle.proof_write.proofs.declarations.write_constraints.Goals.{then-entry+in_ok-write_added, else-entry}

abbrev active : BookCon → Bool
active e = e.active

pub returns-in_err-write_added : goal.returns-in_err-write_added
returns-in_err-write_added g c =
    let book = c.args.book.now in
    wrote_stopped (added_line book.variables) active book.constraints c.loop-place.place c.constraint-entry.result.now c.constraint-entry.ensures.at c.if-entry.true c.from_residual.ensures.1 c.loop-place.invariant c.in_err-write_added.ensures

pub loop-place-preserved : goal.loop-place-preserved
loop-place-preserved g c =
    let book = c.args.book.now in
    let line = added_line book.variables in
    let k = c.loop-place.place in
    let entry = c.constraint-entry.result.now in
    let at = c.constraint-entry.ensures.at in
    elim c.if-entry.branch [
      | then-entry+in_ok-write_added w ↦ rw w.writer-is (wrote_passed line active book.constraints k entry at w.if-entry.true c.loop-place.invariant w.in_ok-write_added.ensures)
      | else-entry w ↦ rw w.writer-is (wrote_failed line active book.constraints k entry at w.if-entry.false c.loop-place.invariant)
    ]
