use Rattle.std.proofs.Common.{arith, sym, ◌∙◌}
use Rattle.std.proofs.lemmas.Bool.{true≢false}
use Rattle.std.proofs.lemmas.Bool.Decides.{Decides-ltb}
use Rattle.std.proofs.lemmas.Int.{ints}
use Rattle.palm_base.proofs.cited.Telling.{tells_both}
use Rattle.palm_domain.specs.Rows.{present_of}
use Rattle.palm_domain.proofs.cited.Comparisons.{ge_from_is_lt, lt_from_is_lt}
use Rattle.palm_model.proofs.cited.Ascending.{ascends_at}
use Rattle.palm_filter.specs.Heeds.{HasAbove, HasBelow}
use Rattle.palm_filter.specs.Shapes.{HasTwo}
use Rattle.palm_engine.proofs.Hits.{two_differ, two_many}
use Rattle.palm_engine.proofs.filtering.loss_of.Goals.{then-count-gt0, else-count-gt0, then-count-gt0-2, else-count-gt0-2}
use Rattle.palm_engine.proofs.filtering.loss_of.Goals as goal

pub returns : goal.returns
returns c =
    let d = present_of c.args.store.now in
    let x = c.args.pair.var in
    let v = c.args.pair.value in
    record {
      value = λ i. v;
      below = elim c.if-count-gt0.branch [
        | then-count-gt0 w ↦
            tells_both (HasBelow d x v) c.if-count-gt0.result
            (λ told. (w.least.result, w.least.ensures.member, lt_from_is_lt w.least.result v (sym told ∙ w.result-is ∙ w.lt.ensures)))
            (λ told has. omega (arith, ints, ge_from_is_lt w.least.result v (sym told ∙ w.result-is ∙ w.lt.ensures), w.least.ensures.least has.0 has.1, has.2))
        | else-count-gt0 w ↦
            tells_both (HasBelow d x v) c.if-count-gt0.result
            (λ told. absurd (omega (arith, w.if-count-gt0.false, (Decides-ltb 0 c.count-count.result).0 (sym w.result-is ∙ told))))
            (λ told has. omega (arith, w.if-count-gt0.false, c.count-count.ensures, has.1.1))
      ];
      above = elim c.if-count-gt0-2.branch [
        | then-count-gt0-2 w ↦
            tells_both (HasAbove d x v) c.if-count-gt0-2.result
            (λ told. (w.greatest.result, w.greatest.ensures.member, lt_from_is_lt v w.greatest.result (sym told ∙ w.result-is ∙ w.lt-then-count-gt0-2.ensures)))
            (λ told has. omega (arith, ints, ge_from_is_lt v w.greatest.result (sym told ∙ w.result-is ∙ w.lt-then-count-gt0-2.ensures), w.greatest.ensures.greatest has.0 has.1, has.2))
        | else-count-gt0-2 w ↦
            tells_both (HasAbove d x v) c.if-count-gt0-2.result
            (λ told. absurd (omega (arith, w.if-count-gt0-2.false, (Decides-ltb 0 c.count-count.result).0 (sym w.result-is ∙ told))))
            (λ told has. omega (arith, w.if-count-gt0-2.false, c.count-count.ensures, has.1.1))
      ];
      several =
          tells_both (HasTwo d x) _
          (λ more. let lt = (Decides-ltb 1 c.count-count.result).0 more in two_differ d x (ascends_at d x c.variables.ensures.present_ascend) (omega (arith, c.count-count.ensures, lt)))
          (λ fewer two. true≢false (sym ((Decides-ltb 1 c.count-count.result).1 (omega (arith, c.count-count.ensures, two_many d x two))) ∙ fewer));
    }
