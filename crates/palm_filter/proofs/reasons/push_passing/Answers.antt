use Rattle.std.proofs.Common.{◌≡◌, ◌++◌, ◌+◌, List, ℤ, length, take, filter, refl, sym, ap, ◌∙◌, arith, length-append}
use Rattle.std.proofs.lemmas.List.{take_all}
use Rattle.palm_base.specs.declared.terms.Pair.{Pair}
use Rattle.palm_model.specs.Removed.{pairs_of}
use Rattle.palm_model.proofs.cited.Reasons.{pairs_more, pairs_same}
use Rattle.palm_filter.proofs.reasons.push_passing.Goals as goal
use Rattle.palm_filter.proofs.reasons.push_passing.Goals.{then-passes, else-passes}

pub push_reserved-requires : goal.push_reserved-requires
push_reserved-requires g c = omega (arith, c.loop-value.invariant.room, c.loop-value-test.true)

pub loop-value-preserved : goal.loop-value-preserved
loop-value-preserved g c = elim c.if-passes.branch [
  | then-passes w ↦
      let grown = ap (λ o. o.items) w.out-is ∙ w.push_reserved.ensures.items in
      let long : length c.if-passes.out.items ≡ length c.loop-value.out.items + 1 = ap length grown ∙ length-append c.loop-value.out.items _ in
      let same = ap (λ o. o.capacity) w.out-is ∙ w.push_reserved.ensures.capacity in
      record {
        written = λ test tests.
            let told = tests c.value-item.result c.passes.result (record { shown = _; shows = refl; says = record { met = c.passes.ensures } }) in
            pairs_more test c.args.var c.args.values.now c.loop-value.value-index c.value-item.result c.reserve.new.self.items c.loop-value.out.items c.if-passes.out.items
            c.loop-value-test.true c.value-item.is (sym told ∙ w.if-passes.true) (c.loop-value.invariant.written test tests) grown;
        room = omega (arith, long, same, c.loop-value.invariant.room, c.loop-value-test.true);
      }
  | else-passes w ↦
      let long = ap (λ o. length o.items) w.out-is in
      let same = ap (λ o. o.capacity) w.out-is in
      record {
        written = λ test tests.
            let told = tests c.value-item.result c.passes.result (record { shown = _; shows = refl; says = record { met = c.passes.ensures } }) in
            pairs_same test c.args.var c.args.values.now c.loop-value.value-index c.value-item.result c.reserve.new.self.items c.loop-value.out.items c.if-passes.out.items
            c.loop-value-test.true c.value-item.is (sym told ∙ w.if-passes.false) (c.loop-value.invariant.written test tests) (ap (λ o. o.items) w.out-is);
        room = omega (arith, long, same, c.loop-value.invariant.room, c.loop-value-test.true);
      }
]

pub returns : goal.returns
returns g c test tests =
    let passing = λ (vs : List ℤ). pairs_of c.args.var (filter test vs) in
    c.loop-value.invariant.written test tests
    ∙ ap (λ (ps : List Pair). ps ++ passing (take c.loop-value.value-index c.args.values.now)) c.reserve.ensures.items
    ∙ ap (λ (vs : List ℤ). c.args.out.now.items ++ passing vs) (take_all c.loop-value.value-index c.args.values.now c.loop-value-test.false)
