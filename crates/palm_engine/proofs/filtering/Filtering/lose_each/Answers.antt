use Rattle.std.proofs.Common.{◌∙◌, ◌+◌, [], ◌∷◌, ◌++◌, get_or, drop, take, Contains, sym, ap, subst, arith}
use Rattle.std.proofs.lemmas.Int.{ints}
use Rattle.std.proofs.lemmas.List.{drop_more, take_all, take_more}
use Rattle.palm_base.proofs.cited.Members.{member_here, member_there}
use Rattle.palm_engine.specs.Changed.{HasLostEach}
use Rattle.palm_engine.proofs.LosingEach.{lost_push, later_above}
use Rattle.palm_engine.proofs.filtering.Filtering.lose_each.Goals as goal

pub lose-requires : goal.lose-requires
lose-requires c =
    let values = c.args.values.now in
    let i = c.loop-value.value-index in
    let v = c.value-item.result in
    c.loop-value.invariant.left v (subst (λ vs. Contains vs v) (sym (drop_more values i v c.loop-value-test.true)) (subst (λ w. Contains (w ∷ drop (i + 1) values) v) c.value-item.is (member_here v (drop (i + 1) values))))

pub loop-value-preserved : goal.loop-value-preserved
loop-value-preserved c =
    let values = c.args.values.now in
    let i = c.loop-value.value-index in
    let v = c.value-item.result in
    record {
      lost = subst (λ vs. HasLostEach c.args.self.now c.args.var vs c.lose.new.self) (sym (take_more values i v c.loop-value-test.true ∙ ap (λ w. take i values ++ w ∷ []) (sym c.value-item.is)))
          (lost_push c.args.self.now c.args.var (take i values) v c.loop-value.self c.lose.new.self c.loop-value.invariant.lost c.lose.ensures);
      left = λ w m.
          let above = later_above values i v w c.requires.ascend c.loop-value-test.true c.value-item.is m in
          c.lose.ensures.loses.others c.args.var w (λ e f. absurd (omega (arith, ints, above, f)))
          (c.loop-value.invariant.left w (subst (λ vs. Contains vs w) (sym (drop_more values i v c.loop-value-test.true)) (member_there (get_or values i v) (drop (i + 1) values) w m)));
    }

pub returns : goal.returns
returns c =
    subst (λ vs. HasLostEach c.args.self.now c.args.var vs c.loop-value.self) (take_all c.loop-value.value-index c.args.values.now (omega (arith, c.loop-value-test.false))) c.loop-value.invariant.lost
