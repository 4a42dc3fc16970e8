use Rattle.std.proofs.Common.{◌++◌, List, ℕ, ap, flat_map, filter, refl, rules}
use Rattle.palm_cert.specs.Certificate.{added_line}
use Rattle.palm_lang.specs.Reply.{var_line}
use Rattle.palm_lang.proofs.cited.Wrote.{wrote_front, wrote_text, wrote_then, wrote_within}
use Rattle.proof_run.specs.Text.{header_line}
use Rattle.proof_write.proofs.Listing.{variables_in_turn}
use Rattle.proof_write.proofs.declarations.write_declarations.Goals as goal

pub returns-in_err-text : goal.returns-in_err-text
returns-in_err-text g c =
    let book = c.args.book.now in
    let added = flat_map (added_line book.variables) (filter (λ e. e.active) book.constraints) in
    let text = ap (λ (t : List ℕ). (header_line ++ t) ++ added) (variables_in_turn book.variables) in
    let w = wrote_text text (wrote_front {T = Unit {0}} added c.from_residual.ensures.1 (wrote_front (flat_map (λ e. var_line e.name e.values) book.variables) refl c.in_err-text.ensures)) in search rules

pub returns-in_err-variables : goal.returns-in_err-variables
returns-in_err-variables g c =
    let book = c.args.book.now in
    let added = flat_map (added_line book.variables) (filter (λ e. e.active) book.constraints) in
    let text = ap (λ (t : List ℕ). (header_line ++ t) ++ added) (variables_in_turn book.variables) in
    let w = wrote_text text (wrote_within added c.from_residual-in_err-variables.ensures.1 c.in_ok-text.ensures c.in_err-variables.ensures) in search rules

pub returns : goal.returns
returns g c =
    let book = c.args.book.now in
    let added = flat_map (added_line book.variables) (filter (λ e. e.active) book.constraints) in
    let text = ap (λ (t : List ℕ). (header_line ++ t) ++ added) (variables_in_turn book.variables) in
    let w = wrote_text text (wrote_then (wrote_then c.in_ok-text.ensures c.in_ok-variables.ensures) c.write_constraints.ensures) in search rules
