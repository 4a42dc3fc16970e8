use Rattle.std.proofs.Common.{◌≡◌, ℕ, ◌<◌, ◌∙◌, Some, length, arith, ap, sym, zero-add}
use Rattle.std.specs.Prelude.{slice_get}
use Rattle.std.specs.List.{range_with_len}
use Rattle.std.proofs.lemmas.List.FromFn.{get_or-range_with_len, length-range_with_len}
use Rattle.std.proofs.lemmas.Option.{slice_get-get_or}
use Rattle.palm_cert.specs.Certificate.{cited, declared_line, is_used}
use Rattle.palm_cert.proofs.cited.Filtered.{wrote_failed, wrote_filtered, wrote_passed, wrote_stopped}
use Rattle.palm_cert.proofs.certificate.write_variables.Goals as goal
use Rattle.palm_cert.proofs.certificate.write_variables.Goals.{then-is_used+in_ok-variable, else-is_used}

-- the number at a place is that of the place
placed : (n i : ℕ) → i < n → slice_get (range_with_len 0 n) i ≡ Some i
placed n i lt = slice_get-get_or (range_with_len 0 n) i 0 (omega (arith, lt, length-range_with_len 0 n)) ∙ ap Some (get_or-range_with_len 0 n i 0 lt ∙ zero-add i)

pub returns-in_err-variable : goal.returns-in_err-variable
returns-in_err-variable g c rs marked =
    let book = c.args.book.now in
    let at = placed (length book.variables) c.loop-index.index (omega (arith, c.loop-index-test.true, c.variables-index-end.ensures.count)) in
    wrote_stopped (declared_line book.variables) (is_used (cited rs book) c.args.claimed) _ c.loop-index.index c.loop-index.index at
    (sym (c.is_used.ensures rs marked) ∙ c.if-is_used.true) c.from_residual.ensures.1 (c.loop-index.invariant rs marked) c.in_err-variable.ensures

pub loop-index-preserved : goal.loop-index-preserved
loop-index-preserved g c rs marked =
    let book = c.args.book.now in
    let line = declared_line book.variables in
    let used = is_used (cited rs book) c.args.claimed in
    let i = c.loop-index.index in
    let at = placed (length book.variables) i (omega (arith, c.loop-index-test.true, c.variables-index-end.ensures.count)) in
    let is = sym (c.is_used.ensures rs marked) in
    elim c.if-is_used.branch [
      | then-is_used+in_ok-variable w ↦ rw w.writer-is (wrote_passed line used _ i i at (is ∙ w.if-is_used.true) (c.loop-index.invariant rs marked) w.in_ok-variable.ensures)
      | else-is_used w ↦ rw w.writer-is (wrote_failed line used _ i i at (is ∙ w.if-is_used.false) (c.loop-index.invariant rs marked))
    ]

pub returns : goal.returns
returns g c rs marked =
    let book = c.args.book.now in
    wrote_filtered (declared_line book.variables) (is_used (cited rs book) c.args.claimed) (range_with_len 0 (length book.variables)) c.loop-index.index
    (omega (arith, c.loop-index-test.false, c.variables-index-end.ensures.count, length-range_with_len 0 (length book.variables))) (c.loop-index.invariant rs marked)
