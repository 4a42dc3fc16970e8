use Rattle.std.proofs.Common.{◌++◌, ◌<◌, List, length, get_or, not, eqb, ap, sym, ◌∙◌}
use Rattle.std.proofs.lemmas.List.{take_all}
use Rattle.palm_domain.specs.Rows.{initial_of, present_of}
use Rattle.palm_model.specs.Removed.{pairs_of, removed_values}
use Rattle.palm_model.specs.declared.constraint.Term.{Term}
use Rattle.palm_model.proofs.cited.Sums.{term_declared}
use Rattle.palm_reason.proofs.cited.LinearReason.{pairs_by, others_by}
use Rattle.filter_linear.proofs.LinearReasons.{kept_more, kept_same}
use Rattle.filter_linear.proofs.reasons.push_others.Goals as goal
use Rattle.filter_linear.proofs.reasons.push_others.Goals.{then-ne+in_ok-push_removed, else-ne}

pub push_removed-requires : goal.push_removed-requires
push_removed-requires c =
    let terms = c.args.rule.now.terms in
    let e = c.as_slice-term-items.ensures in
    let lt : c.loop-term.term-index < length terms = rw e at c.loop-term-test.true in
    term_declared (length c.args.store.now) terms c.loop-term.term-index c.term-item.result c.requires.formed.declared lt
    (c.term-item.is ∙ ap (λ (ts : List Term). get_or ts c.loop-term.term-index c.term-item.result) e)

pub loop-term-preserved : goal.loop-term-preserved
loop-term-preserved c = elim c.if-ne.branch [
  | then-ne+in_ok-push_removed w ↦
      kept_more (λ (t : Term). pairs_of t.var (removed_values (initial_of c.args.store.now) (present_of c.args.store.now) t.var)) (λ (t : Term). not (eqb t.var c.args.pair.now.var)) c.as_slice-term-items.result.now c.loop-term.term-index c.term-item.result
      c.args.out.now.items c.loop-term.out.items c.if-ne.out.items
      c.loop-term-test.true c.term-item.is (sym w.if-ne.ensures) c.loop-term.invariant (ap (λ o. o.items) w.out-is ∙ w.in_ok-push_removed.ensures)
  | else-ne w ↦
      kept_same (λ (t : Term). pairs_of t.var (removed_values (initial_of c.args.store.now) (present_of c.args.store.now) t.var)) (λ (t : Term). not (eqb t.var c.args.pair.now.var)) c.as_slice-term-items.result.now c.loop-term.term-index c.term-item.result
      c.args.out.now.items c.loop-term.out.items c.if-ne.out.items
      c.loop-term-test.true c.term-item.is (sym w.if-ne.ensures) c.loop-term.invariant (ap (λ o. o.items) w.out-is)
]

pub returns : goal.returns
returns c =
    c.loop-term.invariant
    ∙ ap (λ ps. c.args.out.now.items ++ ps)
    (ap (λ (ts : List Term). pairs_by (λ t. removed_values (initial_of c.args.store.now) (present_of c.args.store.now) t.var) ts c.args.pair.now.var) (take_all c.loop-term.term-index c.as_slice-term-items.result.now c.loop-term-test.false ∙ c.as_slice-term-items.ensures)
    ∙ sym (others_by (λ y. removed_values (initial_of c.args.store.now) (present_of c.args.store.now) y) c.args.rule.now.terms c.args.pair.now.var))
