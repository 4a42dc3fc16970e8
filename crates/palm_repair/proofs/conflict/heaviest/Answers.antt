use Rattle.std.proofs.Common.{◌<◌, length, Contains, sym, ap, ◌∙◌, subst, arith}
use Rattle.palm_base.specs.declared.terms.Cid.TheVariants.{Decide}
use Rattle.palm_base.specs.declared.terms.Pair.{Pair}
use Rattle.palm_base.proofs.cited.Telling.{tells_false}
use Rattle.palm_repair.specs.Repair.{weight_of}
use Rattle.palm_repair.proofs.Choosing.{heaviest_all, heaviest_still, heaviest_then}
use Rattle.palm_repair.proofs.Reading.{at_member, at_place}
use Rattle.palm_repair.proofs.conflict.heaviest.Goals as goal
use Rattle.palm_repair.proofs.conflict.heaviest.Goals.{then-weight-greatest+then-holds, else-weight-greatest, else-weight-greatest-via-then-weight-greatest+else-holds, else-weight-greatest-via-else-weight-greatest}

pub weight_of-weight-requires : goal.weight_of-weight-requires
weight_of-weight-requires c =
    let p = c.index-decisions-place.result in
    let is = c.index-decisions-place.is in
    subst (λ (z : Pair). z.var < length c.args.weights.now) is (c.requires p (at_member c.args.decisions.now c.loop-place.place p c.loop-place-test.true is))

pub loop-place-preserved : goal.loop-place-preserved
loop-place-preserved c =
    let weights = c.args.weights.now in
    let decisions = c.args.decisions.now in
    let cids = c.args.cids.now in
    let i = c.loop-place.place in
    let p = c.index-decisions-place.result in
    let is = c.index-decisions-place.is in
    let at = at_place decisions i p c.loop-place-test.true is in
    let weight = c.weight_of-weight.result in
    let weighs = c.weight_of-weight.ensures ∙ sym (ap (λ (z : Pair). weight_of weights z.var) is) in
    let now = c.if-weight-greatest.best in
    let most = c.if-weight-greatest.greatest in
    let best = c.loop-place.best in
    let greatest = c.loop-place.greatest in
    elim c.if-weight-greatest.branch [
      | then-weight-greatest+then-holds w ↦
          heaviest_then weights decisions cids i best now greatest weight most p w.best-is w.greatest-is at
          (subst (λ (z : Pair). Contains cids (Decide z.var)) (sym is) w.if-holds.ensures) weighs w.if-weight-greatest.true c.loop-place.invariant
      | else-weight-greatest w ↦ heaviest_still weights decisions cids i best now greatest most p w.best-is w.greatest-is at (λ held. elim w.else-weight-greatest.branch [
        | else-weight-greatest-via-then-weight-greatest+else-holds w' ↦
            absurd (tells_false _ w'.holds.result w'.holds.ensures w'.if-holds.false (subst (λ (z : Pair). Contains cids (Decide z.var)) is held))
        | else-weight-greatest-via-else-weight-greatest w' ↦ let less = w'.if-weight-greatest.false in omega (arith, less, weighs)
      ]) c.loop-place.invariant
    ]

pub returns : goal.returns
returns c =
    let le = c.loop-place-test.false in
    heaviest_all c.args.weights.now c.args.decisions.now c.args.cids.now c.loop-place.place c.loop-place.best c.loop-place.greatest (omega (arith, le)) c.loop-place.invariant
