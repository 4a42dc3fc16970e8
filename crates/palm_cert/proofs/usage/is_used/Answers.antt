use Rattle.std.proofs.Common.{◌∙◌, true, false, sym, nat_eq}
use Rattle.std.specs.List.{list_any}
use Rattle.std.proofs.lemmas.Bool.{false≢true, or_right}
use Rattle.palm_book.specs.declared.book.BookCon.{BookCon}
use Rattle.palm_model.specs.State.{is_over}
use Rattle.palm_cert.specs.Certificate.{cited, is_cited}
use Rattle.palm_cert.proofs.Marks.{mark_tells, none_more, some_passed}
use Rattle.palm_cert.proofs.usage.is_used.Goals as goal
use Rattle.palm_cert.proofs.usage.is_used.Goals.{else-marks-place-via-then-marks-place+else-is_over, else-marks-place-via-else-marks-place}

pub returns-then-is_over : goal.returns-then-is_over
returns-then-is_over c rs marked =
    let cs = c.args.book.now.constraints in
    let over = λ (e : BookCon). is_over e.con c.args.var in
    let at = c.constraint-entry.ensures.at in
    let some = some_passed (is_cited rs) over cs c.loop-place.place c.constraint-entry.result.now at (mark_tells (is_cited rs) cs c.loop-place.place _ true _ _ marked at c.if-marks-place.true) (sym c.is_over.ensures ∙ c.if-is_over.true) in
    sym (or_right (nat_eq c.args.claimed c.args.var) (list_any over (cited rs c.args.book.now)) some)

pub loop-place-preserved : goal.loop-place-preserved
loop-place-preserved c rs marked =
    let over = λ (e : BookCon). is_over e.con c.args.var in
    let at = c.constraint-entry.ensures.at in
    let none = none_more (is_cited rs) over c.args.book.now.constraints c.loop-place.place c.constraint-entry.result.now at (c.loop-place.invariant rs marked) in
    elim c.else-marks-place.branch [
      | else-marks-place-via-then-marks-place+else-is_over w ↦ none true (mark_tells (is_cited rs) _ _ _ true _ _ marked at w.if-marks-place.true) (λ e. sym w.is_over.ensures ∙ w.if-is_over.false)
      | else-marks-place-via-else-marks-place w ↦ none false (mark_tells (is_cited rs) _ _ _ false _ _ marked at w.if-marks-place.false) (λ e. absurd (false≢true e))
    ]
