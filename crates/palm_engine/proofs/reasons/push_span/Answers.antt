use Rattle.std.proofs.Common.{◌++◌, ◌∙◌, ap, sym, subst}
use Rattle.std.proofs.lemmas.List.{map-append}
use Rattle.palm_explain.specs.Entries.{pairs_with}
use Rattle.palm_explain.specs.Explanations.{AreSpanned}
use Rattle.palm_explain.specs.Moving.{span_at, spans_at}
use Rattle.palm_engine.proofs.Spanning.{run_spans, spanned_more}
use Rattle.palm_engine.proofs.Telling.{near_more}
use Rattle.palm_engine.proofs.reasons.push_span.Goals as goal

pub returns-in_ok-push-clause-told : goal.returns-in_ok-push-clause-told
returns-in_ok-push-clause-told c = λ v pairs reasons run spanned.
    let values = c.args.values.now in
    let before = c.args.out.now.items in
    subst (λ spans. AreSpanned pairs spans (reasons ++ pairs_with c.args.var values)) (sym (ap (λ ss. spans_at ss v) c.in_ok-push.ensures.items ∙ map-append (span_at v) before _))
    (spanned_more pairs (spans_at before v) reasons _ values spanned (run_spans pairs c.args.var values c.in-Some-Some.low.now c.in-Some-Some.high.now run (sym c.in-Some-Some.ensures.value) (sym c.in-Some-Some.ensures'.value)))

pub returns-in_ok-push-clause-near : goal.returns-in_ok-push-clause-near
returns-in_ok-push-clause-near c = near_more c.args.out.now.items c.push.new.self.items _ c.in_ok-push.ensures.items (tt, tt)
