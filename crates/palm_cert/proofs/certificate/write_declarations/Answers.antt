use Rattle.std.proofs.Common.{refl, flat_map}
use Rattle.palm_lang.proofs.cited.Wrote.{wrote_front, wrote_then, wrote_within}
use Rattle.palm_cert.specs.Certificate.{added_line, cited, declared_line, used}
use Rattle.palm_cert.proofs.certificate.write_declarations.Goals as goal

pub returns-in_err-text : goal.returns-in_err-text
returns-in_err-text g c rs marked =
    let book = c.args.book.now in
    wrote_front {T = Unit {0}} (flat_map (added_line book.variables) (cited rs book)) c.from_residual.ensures.1
    (wrote_front (flat_map (declared_line book.variables) (used (cited rs book) c.args.claimed book)) refl c.in_err-text.ensures)

pub returns-in_err-write_variables : goal.returns-in_err-write_variables
returns-in_err-write_variables g c rs marked =
    wrote_within (flat_map (added_line c.args.book.now.variables) (cited rs c.args.book.now)) c.from_residual-in_err-write_variables.ensures.1 c.in_ok-text.ensures (c.in_err-write_variables.ensures rs marked)

pub returns : goal.returns
returns g c rs marked = wrote_then (wrote_then c.in_ok-text.ensures (c.in_ok-write_variables.ensures rs marked)) (c.write_constraints.ensures rs marked)
