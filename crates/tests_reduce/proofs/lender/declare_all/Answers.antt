use Rattle.std.proofs.Common.{◌<◌, ◌≤◌, ◌∷◌, [], ℤ, List, length, sym, ap, subst, ◌∙◌, arith}
use Rattle.std.proofs.lemmas.List.{length-append}
use Rattle.palm_model.specs.Domains.{Ascends}
use Rattle.palm_model.specs.State.{EngineState}
use Rattle.tests_reduce.proofs.Lending.{row_values}
use Rattle.tests_reduce.proofs.lender.declare_all.Goals as goal

pub add_variable-requires-clause-ascend : goal.add_variable-requires-clause-ascend
add_variable-requires-clause-ascend c =
    let lt : c.loop-var.var < length c.args.book.now.variables = omega (arith, c.loop-var-test.true, c.variables-var-end.ensures.count) in
    subst Ascends (sym (c.as_slice.ensures ∙ c.initial.ensures)) (row_values c.args.book.now c.variables-var-end.ensures.valid c.loop-var.var lt).ascend

pub add_variable-requires-clause-filled : goal.add_variable-requires-clause-filled
add_variable-requires-clause-filled c =
    let lt : c.loop-var.var < length c.args.book.now.variables = omega (arith, c.loop-var-test.true, c.variables-var-end.ensures.count) in
    subst (λ (vs : List ℤ). 0 < length vs) (sym (c.as_slice.ensures ∙ c.initial.ensures)) (row_values c.args.book.now c.variables-var-end.ensures.valid c.loop-var.var lt).some

pub add_variable-requires-clause-small : goal.add_variable-requires-clause-small
add_variable-requires-clause-small c =
    let lt : c.loop-var.var < length c.args.book.now.variables = omega (arith, c.loop-var-test.true, c.variables-var-end.ensures.count) in
    subst (λ (vs : List ℤ). length vs ≤ 256) (sym (c.as_slice.ensures ∙ c.initial.ensures)) (row_values c.args.book.now c.variables-var-end.ensures.valid c.loop-var.var lt).few

pub add_variable-requires-clause-few : goal.add_variable-requires-clause-few
add_variable-requires-clause-few c =
    let lt : c.loop-var.var < length c.args.book.now.variables = omega (arith, c.loop-var-test.true, c.variables-var-end.ensures.count) in
    omega (arith, c.loop-var.invariant.0, lt, c.variables-var-end.ensures.valid.few_variables)

pub loop-var-preserved : goal.loop-var-preserved
loop-var-preserved c =
    let after = c.in_ok-add_variable.ensures.ok.after in (
      omega (arith, ap (λ (z : EngineState). length z.initial) after, length-append c.loop-var.engine.state.initial (c.as_slice.result.now ∷ []), c.loop-var.invariant.0),
      ap (λ (z : EngineState). z.active) after ∙ c.loop-var.invariant.1,
    )
