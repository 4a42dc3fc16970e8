use Rattle.std.proofs.Common.{◌≡◌, ◌+◌, ◌++◌, [], ◌∷◌, take, Contains, sym, ap, ◌∙◌, subst}
use Rattle.std.proofs.lemmas.List.{take_all, take_more}
use Rattle.palm_base.proofs.cited.Members.{member_nil}
use Rattle.palm_domain.specs.Rows.{initial_of}
use Rattle.palm_explain.specs.Explanations.{AreSpanned}
use Rattle.palm_explain.specs.Explanations.AreSpanned.{spans_end}
use Rattle.palm_explain.specs.Moving.{spans_at}
use Rattle.palm_filter.specs.Rules.{listed_pairs}
use Rattle.palm_filter.specs.declared.rule.Interval.{Interval}
use Rattle.palm_model.specs.Removed.{pairs_of}
use Rattle.palm_engine.specs.Reasons.{IsRun}
use Rattle.palm_engine.proofs.Spanning.{interval_run, listed_on, one_listed}
use Rattle.palm_engine.proofs.reasons.list_spans.Goals as goal

pub loop-interval-init : goal.loop-interval-init
loop-interval-init c = record {
  told = λ v pairs declared all. subst (λ spans. AreSpanned pairs (spans_at spans v) []) (sym c.clear.ensures.items) spans_end;
  near = λ s m. absurd (member_nil s (subst (λ spans. Contains spans s) c.clear.ensures.items m));
}

pub loop-interval-preserved : goal.loop-interval-preserved
loop-interval-preserved c = record {
  told = λ v pairs declared all.
      let d = initial_of c.args.store.now in
      let intervals = c.args.intervals.now in
      let k = c.loop-interval.interval-index in
      let i = c.interval-item.result in
      let so_far = listed_pairs d (take k intervals) in
      let run = interval_run c.args.store.now pairs i declared c.values_in.ensures.ascend (λ p m. all p (one_listed d intervals k i c.loop-interval-test.true c.interval-item.is p m)) in
      let more : take (k + 1) intervals ≡ take k intervals ++ i ∷ [] = take_more intervals k i c.loop-interval-test.true ∙ ap (λ (j : Interval). take k intervals ++ j ∷ []) (sym c.interval-item.is) in
      subst (λ ps. AreSpanned pairs (spans_at c.push_span.new.out.items v) ps)
      (ap (λ vs. so_far ++ pairs_of i.var vs) c.values_in.ensures.values ∙ sym (listed_on d (take k intervals) i) ∙ ap (listed_pairs d) (sym more))
      (c.in_ok-push_span.ensures.told v pairs so_far (subst (λ vs. IsRun pairs i.var vs) (sym c.values_in.ensures.values) run) (c.loop-interval.invariant.told v pairs declared all));
  near = c.in_ok-push_span.ensures.near c.loop-interval.invariant.near;
}

pub returns-clause-told : goal.returns-clause-told
returns-clause-told c = λ v pairs declared all.
    subst (λ is. AreSpanned pairs (spans_at c.loop-interval.out.items v) (listed_pairs (initial_of c.args.store.now) is))
    (take_all c.loop-interval.interval-index c.args.intervals.now c.loop-interval-test.false) (c.loop-interval.invariant.told v pairs declared all)
