use Rattle.std.proofs.Common.{◌+◌, take, refl, sym, ap, ◌∙◌, subst}
use Rattle.palm_base.specs.declared.terms.Cid.TheVariants.{Not}
use Rattle.palm_base.specs.declared.terms.Pair.{Pair}
use Rattle.palm_base.proofs.cited.Telling.{tells_false}
use Rattle.palm_engine.specs.Engine.{KeepsCounts, View}
use Rattle.palm_model.specs.Event.{Withdraws}
use Rattle.palm_model.specs.Log.{IsActive}
use Rattle.palm_model.specs.State.{IsValid}
use Rattle.palm_repair.specs.Posting.{Origin}
use Rattle.palm_repair.proofs.Learning.{counts_same}
use Rattle.palm_repair.proofs.Taking.{IsTaking, taken_all, taken_next, taken_past, taking_starts}
use Rattle.palm_repair.proofs.learned.withdraw_forced.Goals as goal
use Rattle.palm_repair.proofs.learned.withdraw_forced.Goals.{then-origin-number+then-is_active, else-origin-number, else-origin-number-via-then-origin-number+else-is_active, else-origin-number-via-else-origin-number}

pub loop-origin-init : goal.loop-origin-init
loop-origin-init g c =
    let valid = c.store-store.ensures.valid in
    (taking_starts c.args.number c.args.engine.now.state valid, record { revisions = refl; checks = refl }, valid)

pub loop-origin-preserved : goal.loop-origin-preserved
loop-origin-preserved g c =
    let start = c.args.engine.now in
    let now = c.loop-origin.engine in
    let number = c.args.number in
    let origins = c.args.origins.now in
    let i = c.loop-origin.origin-index in
    let o = c.origin-item.result in
    let lt = c.loop-origin-test.true in
    let is = c.origin-item.is in
    let inv = c.loop-origin.invariant in
    let pair = ap (λ (q : Origin). q.pair) c.origin.view_is in
    let nogood = ap (λ (q : Origin). q.nogood) c.origin.view_is in
    let holds = λ (v : View). IsTaking number (take (i + 1) origins) start.state v.state × KeepsCounts start v × IsValid v.state in
    elim c.if-origin-number.branch [
      | then-origin-number+then-is_active w ↦ subst holds (sym w.engine-is) (
        taken_next number origins i o start.state now.state w.withdraw.new.self.state lt is c.store-store.ensures.valid inv.2 (sym nogood ∙ w.if-origin-number.true) c.requires.active
            (subst (λ (p : Pair). Withdraws now.state (Not p) w.withdraw.new.self.state) pair w.withdraw.ensures.withdraws) inv.0,
        counts_same start now w.withdraw.new.self inv.1 w.withdraw.ensures.counts,
        w.withdraw.ensures.valid,
      )
      | else-origin-number w ↦ subst holds (sym w.engine-is) (
        taken_past number origins i o start.state now.state lt is (λ e active. elim w.else-origin-number.branch [
          | else-origin-number-via-then-origin-number+else-is_active w' ↦
              tells_false _ w'.is_active.result w'.is_active.ensures w'.if-is_active.false (subst (λ (p : Pair). IsActive now.state.active (Not p)) (sym pair) active)
          | else-origin-number-via-else-origin-number w' ↦ w'.if-origin-number.false (nogood ∙ e)
        ]) inv.0,
        inv.1,
        inv.2,
      )
    ]

pub returns-clause-withdraws : goal.returns-clause-withdraws
returns-clause-withdraws g c =
    taken_all c.args.number c.args.origins.now c.loop-origin.origin-index c.args.engine.now.state c.loop-origin.engine.state c.loop-origin-test.false c.loop-origin.invariant.0
