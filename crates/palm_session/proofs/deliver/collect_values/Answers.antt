use Rattle.std.proofs.Common.{List, [], ◌∷◌, ◌++◌, ℤ, filter, ap, ◌∙◌, take_all}
use Rattle.palm_domain.specs.Rows.{present_of}
use Rattle.palm_model.specs.Domains.{values_of}
use Rattle.palm_model.specs.Removed.{is_listed}
use Rattle.palm_model.proofs.cited.Ascending.{ascends_at}
use Rattle.palm_model.proofs.cited.Reasons.{member_listed}
use Rattle.palm_session.proofs.Presents.{filter_taken, filter_left, presents_listed, not_listed}
use Rattle.palm_session.proofs.deliver.collect_values.Goals as goal
use Rattle.palm_session.proofs.deliver.collect_values.Goals.{then-contains+in_ok-push, else-contains}

pub loop-value-preserved : goal.loop-value-preserved
loop-value-preserved c =
    let present = values_of (present_of c.args.store.now) c.args.var in
    let declared = c.initial_values-value-items.result.now in
    elim c.if-contains.branch [
      | then-contains+in_ok-push w ↦
          rw w.values-is (w.in_ok-push.ensures.items ∙ ap (λ (vs : List ℤ). vs ++ c.value-item.result ∷ []) c.loop-value.invariant
          ∙ filter_taken (is_listed present) declared c.loop-value.value-index c.value-item.result c.loop-value-test.true c.value-item.is (member_listed present c.value-item.result (w.if-contains.ensures)))
      | else-contains w ↦
          rw w.values-is (c.loop-value.invariant
          ∙ filter_left (is_listed present) declared c.loop-value.value-index c.value-item.result c.loop-value-test.true c.value-item.is (not_listed present c.value-item.result (w.if-contains.ensures)))
    ]

pub returns : goal.returns
returns c =
    let present = values_of (present_of c.args.store.now) c.args.var in
    let declared = c.initial_values-value-items.result.now in
    c.loop-value.invariant ∙ ap (filter (is_listed present)) (take_all c.loop-value.value-index declared c.loop-value-test.false)
    ∙ presents_listed declared present c.initial_values-value-items.ensures.ascend (ascends_at (present_of c.args.store.now) c.args.var c.requires.ascend) c.initial_values-value-items.ensures.inside
