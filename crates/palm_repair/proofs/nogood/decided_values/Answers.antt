use Rattle.std.proofs.Common.{◌<◌, length, sym, ap, ◌∙◌, subst, length-set, Some}
use Rattle.palm_repair.proofs.Reading.{at_member, shows_more}
use Rattle.palm_repair.proofs.nogood.decided_values.Goals as goal

pub set_value-requires : goal.set_value-requires
set_value-requires c =
    let p = c.pair-item.result in
    subst (λ n. p.var < n) (sym c.loop-pair.invariant.0) (c.requires.within p (at_member c.args.decisions.now c.loop-pair.pair-index p c.loop-pair-test.true c.pair-item.is))

pub loop-pair-preserved : goal.loop-pair-preserved
loop-pair-preserved c =
    let decisions = c.args.decisions.now in
    let i = c.loop-pair.pair-index in
    let p = c.pair-item.result in
    let values = c.loop-pair.values.items in
    let within = subst (λ n. p.var < n) (sym c.loop-pair.invariant.0) (c.requires.within p (at_member decisions i p c.loop-pair-test.true c.pair-item.is)) in (
      ap length c.set_value.ensures ∙ length-set values p.var (Some p.value) ∙ c.loop-pair.invariant.0,
      shows_more decisions i p values c.set_value.new.values.items c.loop-pair-test.true c.pair-item.is c.requires.distinct within c.set_value.ensures c.loop-pair.invariant.1,
    )
