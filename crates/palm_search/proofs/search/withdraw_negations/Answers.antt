use Rattle.std.proofs.Common.{refl, ◌∙◌}
use Rattle.palm_base.specs.declared.terms.Cid.TheVariants.{Not}
use Rattle.palm_search.proofs.cited.Closing.{goes_none, goes_one, goes_then, withdrawn_fewer}
use Rattle.palm_search.specs.Search.{of_search}
use Rattle.palm_search.proofs.cited.Owning.{search_owns}
use Rattle.palm_search.proofs.search.withdraw_negations.Goals as goal

pub loop-pair-init : goal.loop-pair-init
loop-pair-init g c = (goes_none of_search c.args.engine.now.state c.store-store.ensures.valid, c.store-store.ensures.valid, record { revisions = refl; checks = refl })

pub loop-pair-smaller : goal.loop-pair-smaller
loop-pair-smaller g c = withdrawn_fewer c.loop-pair.engine.state c.withdraw.new.self.state (Not c.in-Some.pair) c.in-Some.ensures.0 c.withdraw.ensures.withdraws

pub loop-pair-preserved : goal.loop-pair-preserved
loop-pair-preserved g c =
    let before = c.args.engine.now.state in
    let now = c.loop-pair.engine.state in
    let after = c.withdraw.new.self.state in
    let counts = c.withdraw.ensures.counts in
    let so_far = c.loop-pair.invariant.2 in (
      goes_then of_search before now after c.store-store.ensures.valid c.loop-pair.invariant.0
          (goes_one of_search now after (Not c.in-Some.pair) search_owns c.loop-pair.invariant.1 c.in-Some.ensures.0 refl c.withdraw.ensures.withdraws),
      c.withdraw.ensures.valid,
      record { revisions = counts.revisions ∙ so_far.revisions; checks = counts.checks ∙ so_far.checks },
    )
