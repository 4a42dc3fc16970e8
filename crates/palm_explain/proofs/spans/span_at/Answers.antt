use Rattle.std.proofs.Common.{◌≡◌, ◌∙◌, ℕ, Some, slice_get, refl, sym, ap, subst}
use Rattle.palm_base.specs.declared.terms.Pair.{Pair}
use Rattle.palm_base.proofs.cited.Members.{member_get}
use Rattle.palm_explain.specs.Entries.{pairs_with}
use Rattle.palm_explain.specs.Rows.{number_in, row_number}
use Rattle.palm_explain.proofs.Reasons.{some_same}
use Rattle.palm_explain.proofs.RowNumbers.{number_within, row_formed}
use Rattle.palm_explain.proofs.RowSpans.{span_here}
use Rattle.palm_explain.proofs.spans.span_at.Goals as goal

pub row_of-row-requires : goal.row_of-row-requires
row_of-row-requires c =
    let p = c.reason_at-first.result in
    let k = c.requires.removed p (member_get c.args.reasons.now c.args.start p c.reason_at-first.ensures) in
    number_within c.args.rows.now p k.0 k.1

pub run_length-count-requires-clause-formed : goal.run_length-count-requires-clause-formed
run_length-count-requires-clause-formed c = row_formed c.args.rows.now c.reason_at-first.result.var c.row_of-row.result.now c.requires.formed c.row_of-row.ensures

pub run_length-count-requires-clause-there : goal.run_length-count-requires-clause-there
run_length-count-requires-clause-there c p at =
    let first = c.reason_at-first.result in
    let same : first ≡ p = some_same first p (sym c.reason_at-first.ensures ∙ at) in
    let k = c.requires.removed first (member_get c.args.reasons.now c.args.start first c.reason_at-first.ensures) in
    subst (λ (q : Pair). (q.var ≡ first.var) × ((k : ℕ) × (number_in c.row_of-row.result.now.values.items c.row_of-row.result.now.numbers.items q.value ≡ Some k))) same
    (refl, (k.0, ap (λ o. row_number o first.value) (sym c.row_of-row.ensures) ∙ k.1))

pub returns-clause-pairs : goal.returns-clause-pairs
returns-clause-pairs c n removed =
    let first = c.reason_at-first.result in
    let last = c.reason_at.result in
    ap (pairs_with first.var) (span_here c.args.rows.now first.var c.row_of-row.result.now n first.value last.value c.row_of-row.ensures)
    ∙ c.run_length-count.ensures.run n first last c.reason_at-first.ensures c.reason_at.ensures (λ p m same.
    let k = removed p m in
    (k.0, ap (λ o. row_number o p.value) (sym c.row_of-row.ensures ∙ ap (λ x. slice_get c.args.rows.now x) same) ∙ k.1, k.2))
