use Rattle.std.proofs.Common.{◌≡◌, ◌+◌, ◌-◌, inl, inr, subst, arith}
use Rattle.std.proofs.lemmas.Bool.{cases_lt}
use Rattle.std.proofs.lemmas.Option.{slice_get_within}
use Rattle.palm_base.specs.declared.terms.Pair.{Pair}
use Rattle.palm_explain.specs.Rows.{IsNext}
use Rattle.palm_explain.proofs.RowSpans.{run_span}
use Rattle.palm_explain.proofs.spans.run_length.Goals as goal

pub loop-var-preserved : goal.loop-var-preserved
loop-var-preserved c =
    let r = c.args.row.now in
    let n = c.loop-var.count in
    let next = c.follows.ensures c.loop-var-test.true in
    let i = c.loop-var.invariant in
    let at = i.place in
    let made : Pair = record { var = c.args.var; value = next.0 } in
    let lt = slice_get_within c.args.reasons.now (c.args.start + n) made next.1 in
    let here : c.loop-var.place ≡ c.place_near-place.result + 1 - 1 + n = omega (arith, at) in
    let last : IsNext r c.args.var c.args.reasons.now (c.args.start + n) (c.place_near-place.result + 1 - 1 + n) = subst (IsNext r c.args.var c.args.reasons.now (c.args.start + n)) here next in record {
      some = omega arith;
      within = omega (arith, lt);
      place = omega (arith, at);
      run = λ k l. elim (cases_lt k n) [
        | inl less ↦ i.run k less
        | inr ge ↦ let e : n ≡ k = omega (arith, l, ge) in subst (λ j. IsNext r c.args.var c.args.reasons.now (c.args.start + j) (c.place_near-place.result + 1 - 1 + j)) e last
      ];
    }

pub returns-clause-run : goal.returns-clause-run
returns-clause-run c n p q first last removed =
    run_span c.args.row.now c.requires.formed c.args.var c.args.reasons.now c.args.start (c.place_near-place.result + 1 - 1) c.loop-var.count c.loop-var.invariant.run n p q c.loop-var.invariant.some first last removed
