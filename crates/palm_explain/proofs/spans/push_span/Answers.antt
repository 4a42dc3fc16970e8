use Rattle.std.proofs.Common.{◌∙◌, ◌+◌, ◌++◌, ◌∷◌, [], sym, ap}
use Rattle.std.proofs.lemmas.List.{append_assoc}
use Rattle.palm_base.specs.declared.terms.Pair.{Pair}
use Rattle.palm_explain.specs.Entries.{pairs_with}
use Rattle.palm_explain.specs.Rows.{rest_in}
use Rattle.palm_explain.proofs.MarkedSpans.{next_left}
use Rattle.palm_explain.proofs.spans.push_span.Goals as goal

pub loop-next-preserved : goal.loop-next-preserved
loop-next-preserved c =
    let r = c.in-Some.row.now in
    let n = c.args.number in
    let s = c.args.span.now in
    let v = c.numbered.result.0 in
    let so_far = c.loop-next.out.items in
    let rest = rest_in r n s.high (c.in-Some-next_before.next + 1) in
    let more = next_left r.values.items rest (rest_in r n s.high c.loop-next.place) c.in-Some-next_before.next v c.numbered.ensures.value c.in-Some-next_before.ensures.some.1 in
    let pair : Pair = record { var = s.var; value = v } in
    ap (λ ps. ps ++ pairs_with s.var rest) c.in_ok-push.ensures.items ∙ append_assoc so_far (pair ∷ []) (pairs_with s.var rest)
    ∙ ap (λ vs. so_far ++ pairs_with s.var vs) (sym more) ∙ c.loop-next.invariant
