use Rattle.std.proofs.Common.{◌≤ℤ◌, w64, to_z, of_z, rules, ◌∙◌, subst}
use Rattle.std.proofs.lemmas.Int.{to_z-of_z}
use Rattle.palm_domain.proofs.cited.Comparisons.{ge_from_int_lt}
use Rattle.palm_domain.specs.Rows.{present_of}
use Rattle.filter_occur.specs.Count.{values_where}
use Rattle.filter_occur.proofs.Counting.{counted_certain, counted_impossible, counted_possible, counted_missing, counted_enough, several_listed}
use Rattle.filter_occur.proofs.rule.CountRule.counts_to.Goals as goal
use Rattle.filter_occur.proofs.rule.CountRule.counts_to.Goals.{in-Certain, in-Impossible, in-Open+then-from-enough+then-is_possible, in-Open+else-from-enough, else-from-enough-via-then-from-enough+else-is_possible, else-from-enough-via-else-from-enough}

pub loop-var-preserved : goal.loop-var-preserved
loop-var-preserved c =
    let value = c.args.self.now.value in
    let d = present_of c.args.store.now in
    let x = c.args.pair.now.var in
    let v = c.args.pair.now.value in
    let y = c.var-item.result in
    let chance = c.in_ok-chance.field-0 in
    let enough = to_z w64 (of_z w64 c.args.enough) in
    let f = values_where d x v in
    let vars = c.as_slice-var-items.result.now in
    let i = c.loop-var.var-index in
    let lt = c.loop-var-test.true in
    let low = c.loop-var.low in
    let high = c.loop-var.high in
    let lower = c.match-branch-2.low in
    let higher = c.match-branch-2.high in
    elim c.match-branch-2.branch [
      | in-Certain w ↦ counted_certain f value vars enough i y lt c.var-item.is low high c.loop-var.invariant chance c.in_ok-chance.ensures lower higher w.in-Certain.is w.low-is w.high-is
      | in-Impossible w ↦ counted_impossible f value vars enough i y lt c.var-item.is low high c.loop-var.invariant chance c.in_ok-chance.ensures lower higher w.in-Impossible.is w.low-is w.high-is
      | in-Open+then-from-enough+then-is_possible w ↦
          counted_possible f value vars enough i y lt c.var-item.is low high c.loop-var.invariant chance c.in_ok-chance.ensures lower higher w.in-Open.is
          (several_listed d x v value y chance c.in_ok-chance.ensures w.in-Open.is w.is_possible.result w.is_possible.ensures ∙ w.if-is_possible.true) w.low-is w.high-is
      | in-Open+else-from-enough w ↦ elim w.else-from-enough.branch [
        | else-from-enough-via-then-from-enough+else-is_possible u ↦
            counted_missing f value vars enough i y lt c.var-item.is low high c.loop-var.invariant chance c.in_ok-chance.ensures lower higher w.in-Open.is
            (several_listed d x v value y chance c.in_ok-chance.ensures w.in-Open.is u.is_possible.result u.is_possible.ensures ∙ u.if-is_possible.false) w.low-is w.high-is
        | else-from-enough-via-else-from-enough u ↦
            counted_enough f value vars enough i y lt c.var-item.is low high c.loop-var.invariant chance c.in_ok-chance.ensures lower higher w.in-Open.is
            (subst (λ z. enough ≤ℤ z) (to_z-of_z w64 w.from.result (search rules) ∙ w.from.ensures) (ge_from_int_lt (to_z w64 (of_z w64 w.from.result)) enough u.if-from-enough.false)) w.low-is w.high-is
      ]
    ]
