use Rattle.std.proofs.Common.{◌≡◌, pos, ◌+◌, ◌-◌, refl, ◌∙◌, subst, arith}
use Rattle.palm_base.specs.declared.terms.Cid.TheVariants.{User}
use Rattle.palm_search.proofs.cited.Closing.{goes_none, goes_one, goes_then}
use Rattle.palm_best.specs.Cuts.{is_own}
use Rattle.palm_best.specs.Improving.{HasCuts}
use Rattle.palm_best.specs.declared.limits.TheConstants.{FIRST_CUT}
use Rattle.palm_best.proofs.Cutting.{cuts_gone}
use Rattle.palm_best.proofs.Owned.{cut_is_own, is_own_owns}
use Rattle.palm_best.proofs.cuts.withdraw_cuts.Goals as goal

pub loop-left-init : goal.loop-left-init
loop-left-init c =
    let valid = c.store-store.ensures.valid in
    (c.requires.few, c.requires.active, goes_none is_own c.args.engine.now.state valid, valid, record { revisions = refl; checks = refl })

pub withdraw-requires : goal.withdraw-requires
withdraw-requires c =
    let some = c.loop-left-test.true in
    c.loop-left.invariant.1.posted (c.loop-left.left - 1) (omega arith)

pub loop-left-preserved : goal.loop-left-preserved
loop-left-preserved c =
    let first = c.args.engine.now.state in
    let now = c.loop-left.engine.state in
    let after = c.withdraw.new.self.state in
    let last = c.loop-left.left - 1 in
    let so_far = c.loop-left.invariant in
    let some = c.loop-left-test.true in
    let few = so_far.0 in
    let counts = c.withdraw.ensures.counts in
    let kept = so_far.4 in
    let more : c.loop-left.left ≡ last + 1 = omega arith in
    let has = subst (λ n. HasCuts n now) more so_far.1 in (
      omega (arith, few),
      cuts_gone last now after so_far.3 c.withdraw.ensures.withdraws has,
      goes_then is_own first now after c.store-store.ensures.valid so_far.2
          (goes_one is_own now after (User (FIRST_CUT + last)) is_own_owns so_far.3 (has.posted last (omega arith)) (cut_is_own 0 last (pos 0)) c.withdraw.ensures.withdraws),
      c.withdraw.ensures.valid,
      record { revisions = counts.revisions ∙ kept.revisions; checks = counts.checks ∙ kept.checks },
    )
