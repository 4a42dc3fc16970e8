use Rattle.std.proofs.Common.{◌≡◌, ◌∙◌, ℕ, List, [], ◌∷◌, get_or, length, take_all, ap, arith}
use Rattle.std.proofs.lemmas.List.{append-nil}
use Rattle.palm_explain.specs.Entries.{span_pairs, span_values, written}
use Rattle.palm_explain.specs.declared.rows.Row.{Row}
use Rattle.palm_explain.specs.declared.spans.Span.{Span}
use Rattle.palm_explain.proofs.RowSpans.{pairs_length}
use Rattle.palm_explain.proofs.spans.are_countable.Goals as goal

only_one : (rows : List Row) (n : ℕ) (spans : List Span) (d : Span) → length spans ≡ 1 → length (written rows n spans) ≡ length (span_values rows n (get_or spans 0 d))
only_one rows n [] d one = absurd (omega (arith, one))
only_one rows n (t ∷ []) d one = ap length (append-nil (span_pairs rows n t)) ∙ pairs_length rows n t
only_one rows n (t ∷ u ∷ spans) d one = absurd (omega (arith, one))

pub returns-then-spans-eq1 : goal.returns-then-spans-eq1
returns-then-spans-eq1 c known n =
    let d = c.index-spans-0.result in
    let s = get_or c.args.spans.now 0 d in
    let own = only_one c.args.rows.now n c.args.spans.now d c.if-spans-eq1.true in
    let most = c.lost_by.ensures.most n s.low s.high in omega (arith, own, most, c.if-prove.false)

pub returns : goal.returns
returns c known n =
    let most = c.loop-span.invariant.most n in
    let fits = c.loop-span.invariant.fits in
    let all = ap (λ ss. length (written c.args.rows.now n ss)) (take_all c.loop-span.span-index c.args.spans.now (omega (arith, c.loop-span-test.false))) in omega (arith, most, fits, all)
