use Rattle.std.proofs.Common.{◌<◌, get_or, length, sym, ap, ◌∙◌, subst}
use Rattle.palm_repair.proofs.Reading.{others_more, others_same}
use Rattle.palm_repair.proofs.nogood.justification.Goals as goal
use Rattle.palm_repair.proofs.nogood.justification.Goals.{then-not-is_same+in_ok-push, else-not-is_same}

pub loop-other-preserved : goal.loop-other-preserved
loop-other-preserved c =
    let pairs = c.args.nogood.now.pairs in
    let i = c.loop-other.other-index in
    let x = c.other-item.result in
    let same = c.pairs-other-items.ensures in
    let lt = subst (λ l. i < length l) same c.loop-other-test.true in
    let is = c.other-item.is ∙ ap (λ l. get_or l i x) same in
    elim c.if-not-is_same.branch [
      | then-not-is_same+in_ok-push w ↦
          others_more pairs i x c.args.pair.now c.loop-other.cids c.if-not-is_same.cids lt is (sym c.is_same.ensures ∙ w.if-not-is_same.true) c.loop-other.invariant (w.cids-is ∙ w.in_ok-push.ensures.ok)
      | else-not-is_same w ↦ others_same pairs i x c.args.pair.now c.loop-other.cids c.if-not-is_same.cids lt is (sym c.is_same.ensures ∙ w.if-not-is_same.false) c.loop-other.invariant w.cids-is
    ]
