use Rattle.std.proofs.Common.{true, false}
use Rattle.palm_cert.specs.Certificate.{added_line, is_cited}
use Rattle.palm_cert.proofs.Marks.{mark_tells}
use Rattle.palm_cert.proofs.cited.Filtered.{wrote_failed, wrote_passed, wrote_stopped}
use Rattle.palm_cert.proofs.certificate.write_constraints.Goals as goal
use Rattle.palm_cert.proofs.certificate.write_constraints.Goals.{then-is_cited+in_ok-write_added, else-is_cited}

pub returns-in_err-write_added : goal.returns-in_err-write_added
returns-in_err-write_added g c rs marked =
    let at = c.constraint-entry.ensures.at in
    wrote_stopped (added_line c.args.book.now.variables) (is_cited rs) c.args.book.now.constraints c.loop-place.place c.constraint-entry.result.now at
    (mark_tells (is_cited rs) _ c.loop-place.place _ true _ _ marked at c.if-is_cited.true) c.from_residual.ensures.1 (c.loop-place.invariant rs marked) c.in_err-write_added.ensures

pub loop-place-preserved : goal.loop-place-preserved
loop-place-preserved g c rs marked =
    let cs = c.args.book.now.constraints in
    let line = added_line c.args.book.now.variables in
    let k = c.loop-place.place in
    let entry = c.constraint-entry.result.now in
    let at = c.constraint-entry.ensures.at in
    elim c.if-is_cited.branch [
      | then-is_cited+in_ok-write_added w ↦
          rw w.writer-is (wrote_passed line (is_cited rs) cs k entry at (mark_tells (is_cited rs) _ k _ true _ _ marked at w.if-is_cited.true) (c.loop-place.invariant rs marked) w.in_ok-write_added.ensures)
      | else-is_cited w ↦
          rw w.writer-is (wrote_failed line (is_cited rs) cs k entry at (mark_tells (is_cited rs) _ k _ false _ _ marked at w.if-is_cited.false) (c.loop-place.invariant rs marked))
    ]
