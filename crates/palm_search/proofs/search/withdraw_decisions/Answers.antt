use Rattle.std.proofs.Common.{refl, rules, ◌∙◌}
use Rattle.palm_base.specs.declared.terms.Cid.TheVariants.{Decide}
use Rattle.palm_search.proofs.Calling.{last_active, last_withdrawn, none_decided}
use Rattle.palm_search.proofs.cited.Closing.{goes_none, goes_one, goes_then}
use Rattle.palm_search.specs.Search.{of_search}
use Rattle.palm_search.proofs.cited.Owning.{search_owns}
use Rattle.palm_search.proofs.search.withdraw_decisions.Goals as goal

pub loop-pair-init : goal.loop-pair-init
loop-pair-init g c = (c.requires, goes_none of_search c.args.engine.now.state c.store-store.ensures.valid, c.store-store.ensures.valid, record { revisions = refl; checks = refl })

pub withdraw-requires : goal.withdraw-requires
withdraw-requires g c =
    last_active (record { engine = c.loop-pair.engine.state; decisions = c.loop-pair.decisions.items }) c.pop.new.self.items c.in-Some.pair c.loop-pair.invariant.0 c.in-Some.ensures.items

pub loop-pair-preserved : goal.loop-pair-preserved
loop-pair-preserved g c =
    let before = c.args.engine.now.state in
    let now = c.loop-pair.engine.state in
    let after = c.withdraw.new.self.state in
    let has = c.loop-pair.invariant.0 in
    let valid = c.loop-pair.invariant.2 in
    let counts = c.withdraw.ensures.counts in
    let so_far = c.loop-pair.invariant.3 in
    let is = last_active (record { engine = now; decisions = c.loop-pair.decisions.items }) c.pop.new.self.items c.in-Some.pair has c.in-Some.ensures.items in (
      last_withdrawn (record { engine = now; decisions = c.loop-pair.decisions.items }) after c.pop.new.self.items c.in-Some.pair valid has c.in-Some.ensures.items c.withdraw.ensures.withdraws,
      goes_then of_search before now after c.store-store.ensures.valid c.loop-pair.invariant.1 (goes_one of_search now after (Decide c.in-Some.pair.var) search_owns valid is refl c.withdraw.ensures.withdraws),
      c.withdraw.ensures.valid,
      record { revisions = counts.revisions ∙ so_far.revisions; checks = counts.checks ∙ so_far.checks },
    )

pub returns-clause-none : goal.returns-clause-none
returns-clause-none g c = none_decided (record { engine = c.loop-pair.engine.state; decisions = c.loop-pair.decisions.items }) c.loop-pair.invariant.0 (search rules)
