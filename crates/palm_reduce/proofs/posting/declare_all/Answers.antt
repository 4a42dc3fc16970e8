use Rattle.std.proofs.Common.{◌<◌, ◌≤◌, ℤ, List, length, sym, subst, ◌∙◌, arith}
use Rattle.palm_model.specs.Domains.{Ascends}
use Rattle.palm_model.specs.Event.{Declares}
use Rattle.palm_reduce.proofs.Filling.{declared_all, declares_next, few_declared, row_values}
use Rattle.palm_reduce.proofs.posting.declare_all.Goals as goal

pub add_variable-requires-clause-ascend : goal.add_variable-requires-clause-ascend
add_variable-requires-clause-ascend c =
    let lt : c.loop-var.var < length c.args.book.now.variables = omega (arith, c.loop-var-test.true, c.variables-var-end.ensures.count) in
    subst Ascends (sym (c.as_slice.ensures ∙ c.initial.ensures)) (row_values c.args.book.now c.variables-var-end.ensures.valid c.loop-var.var lt).ascend

pub add_variable-requires-clause-filled : goal.add_variable-requires-clause-filled
add_variable-requires-clause-filled c =
    let lt : c.loop-var.var < length c.args.book.now.variables = omega (arith, c.loop-var-test.true, c.variables-var-end.ensures.count) in
    subst (λ (vs : List ℤ). 0 < length vs) (sym (c.as_slice.ensures ∙ c.initial.ensures)) (row_values c.args.book.now c.variables-var-end.ensures.valid c.loop-var.var lt).some

pub add_variable-requires-clause-small : goal.add_variable-requires-clause-small
add_variable-requires-clause-small c =
    let lt : c.loop-var.var < length c.args.book.now.variables = omega (arith, c.loop-var-test.true, c.variables-var-end.ensures.count) in
    subst (λ (vs : List ℤ). length vs ≤ 256) (sym (c.as_slice.ensures ∙ c.initial.ensures)) (row_values c.args.book.now c.variables-var-end.ensures.valid c.loop-var.var lt).few

pub add_variable-requires-clause-few : goal.add_variable-requires-clause-few
add_variable-requires-clause-few c =
    let lt : c.loop-var.var < length c.args.book.now.variables = omega (arith, c.loop-var-test.true, c.variables-var-end.ensures.count) in
    omega (arith, few_declared c.args.book.now c.loop-var.var c.loop-var.engine.state c.loop-var.invariant, lt, c.variables-var-end.ensures.valid.few_variables)

pub loop-var-preserved : goal.loop-var-preserved
loop-var-preserved c =
    let lt : c.loop-var.var < length c.args.book.now.variables = omega (arith, c.loop-var-test.true, c.variables-var-end.ensures.count) in
    declares_next c.args.book.now c.loop-var.var lt c.loop-var.engine.state c.add_variable.new.self.state c.loop-var.invariant
    (subst (λ (vs : List ℤ). Declares c.loop-var.engine.state vs c.add_variable.new.self.state) (c.as_slice.ensures ∙ c.initial.ensures) c.in_ok-add_variable.ensures.ok)

pub returns : goal.returns
returns c =
    declared_all c.args.book.now c.loop-var.var (omega (arith, c.loop-var-test.false, c.variables-var-end.ensures.count)) c.loop-var.engine.state c.loop-var.invariant
