use Rattle.std.proofs.Common.{ap, sym, ◌∙◌, ◌++◌, [], cond, append_assoc}
use Rattle.palm_domain.specs.Rows.{initial_of, present_of}
use Rattle.palm_model.specs.Count.{counted_pairs, low_pairs, high_pairs, needs_low, needs_high}
use Rattle.filter_occur.proofs.Written.{others_more, others_same}
use Rattle.filter_occur.proofs.rule.CountRule.push_others.Goals as goal
use Rattle.filter_occur.proofs.rule.CountRule.push_others.Goals.{then-ne+in_ok-push_low+in_ok-push_high, else-ne}

pub loop-var-preserved : goal.loop-var-preserved
loop-var-preserved c =
    let o = c.args.self.now in
    let initial = initial_of c.args.store.now in
    let present = present_of c.args.store.now in
    let y = c.var-item.result in
    let out = c.loop-var.out.items in
    elim c.if-ne.branch [
      | then-ne+in_ok-push_low+in_ok-push_high w ↦
          others_more (counted_pairs initial present o.value o.op) c.as_slice-var-items.result.now c.loop-var.var-index y c.args.except c.loop-var-test.true c.var-item.is
          (sym c.ne.ensures ∙ w.if-ne.true) c.args.out.now.items out c.if-ne.out.items c.loop-var.invariant
          (ap (λ v. v.items) w.out-is ∙ w.in_ok-push_high.ensures ∙ ap (λ ps. ps ++ cond (needs_high o.op) (high_pairs initial present o.value y) []) w.in_ok-push_low.ensures
          ∙ append_assoc out (cond (needs_low o.op) (low_pairs initial present o.value y) []) (cond (needs_high o.op) (high_pairs initial present o.value y) []))
      | else-ne w ↦
          others_same (counted_pairs initial present o.value o.op) c.as_slice-var-items.result.now c.loop-var.var-index y c.args.except c.loop-var-test.true c.var-item.is
          (sym c.ne.ensures ∙ w.if-ne.false) c.args.out.now.items out c.if-ne.out.items c.loop-var.invariant (ap (λ v. v.items) w.out-is)
    ]
