use Rattle.std.proofs.Common.{◌<◌, ◌≤◌, ◌+◌, ◌*◌, ◌+ℤ◌, List, length, take, get_or, to_z, w64, sym, ap, ◌∙◌, subst, arith}
use Rattle.palm_model.specs.Limits.{IsUpTo}
use Rattle.palm_model.specs.Linear.{total}
use Rattle.palm_model.specs.Trial.{listed}
use Rattle.palm_model.specs.declared.constraint.Term.{Term}
use Rattle.palm_model.proofs.cited.Sums.{term_declared, total_more, sum_up_to, sum_read}
use Rattle.palm_model.proofs.satisfied.total_of.Goals as goal

pub term_value-sum-requires-clause-declared : goal.term_value-sum-requires-clause-declared
term_value-sum-requires-clause-declared c =
    let terms = c.args.terms.now in
    let e = c.as_slice-term-items.ensures in
    let lt : c.loop-term.term-index < length terms = rw e at c.loop-term-test.true in
    term_declared (length c.args.values.now) terms c.loop-term.term-index c.term-item.result c.requires.declared lt
    (c.term-item.is ∙ ap (λ (ts : List Term). get_or ts c.loop-term.term-index c.term-item.result) e)

pub loop-term-preserved : goal.loop-term-preserved
loop-term-preserved c =
    let a = listed c.args.values.now in
    let i = c.loop-term.term-index in
    let n = c.term_value-sum.result in
    let few : i ≤ 16 = omega (arith, c.requires.few, ap length c.as_slice-term-items.ensures) in
    let m = to_z w64 c.loop-term.sum-bits in
    let e = sum_read i m n few c.loop-term.invariant.small c.term_value-sum.ensures.small in
    record {
      sum =
          e ∙ ap (λ z. z +ℤ n) c.loop-term.invariant.sum ∙ ap (λ z. total a (take i c.as_slice-term-items.result.now) +ℤ z) c.term_value-sum.ensures.product
          ∙ sym (total_more a c.as_slice-term-items.result.now i c.term-item.result c.loop-term-test.true c.term-item.is);
      small = subst (λ z. IsUpTo ((i + 1) * 214748364800000) z) (sym e) (sum_up_to i m n c.loop-term.invariant.small c.term_value-sum.ensures.small);
    }
