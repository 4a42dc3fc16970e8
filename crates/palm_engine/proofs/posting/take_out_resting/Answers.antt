use Rattle.std.proofs.Common.{◌≡◌, ◌+◌, ap, arith, suc, sym, subst, ◌∙◌}
use Rattle.palm_engine.specs.Posted.{active_of, actives_of}
use Rattle.palm_engine.proofs.Placing.{at_place, behind_decisions, front_stands, map_remove, removed_rises, rest_stands}
use Rattle.palm_engine.proofs.cited.Withdrawing.{IsWalked, walk_starts, walk_ends, walked_out, walked_past}
use Rattle.palm_engine.proofs.posting.take_out_resting.Goals as goal

pub loop-posted-init : goal.loop-posted-init
loop-posted-init g c =
    let meaning = g.F.Filter.meaning in
    let xs = c.args.posted.now.items in
    let place = c.decisions-place.result in
    let front = c.decisions-place.ensures in
    walk_starts c.args.filtering.now (actives_of meaning xs) c.args.cid.now place c.requires.rising c.requires.kept (front_stands meaning xs place front) (behind_decisions meaning xs place front)

pub at-requires : goal.at-requires
at-requires g c = c.stands_negation.ensures.within c.loop-posted-test.true

pub take_out-requires-clause-within : goal.take_out-requires-clause-within
take_out-requires-clause-within g c = c.stands_negation.ensures.within c.loop-posted-test.true

pub loop-posted-preserved-then-rests_on : goal.loop-posted-preserved-then-rests_on
loop-posted-preserved-then-rests_on g c =
    let meaning = g.F.Filter.meaning in
    let xs = c.loop-posted.posted.items in
    let ys = c.take_out.new.posted.items in
    let place = c.loop-posted.place in
    let x = c.at.result.now in
    let within = c.stands_negation.ensures.within c.loop-posted-test.true in
    let e = at_place (active_of meaning) xs place x within c.at.ensures in
    walked_out c.args.filtering.now c.loop-posted.filtering c.take_out.new.filtering (actives_of meaning c.args.posted.now.items) (actives_of meaning xs) (actives_of meaning ys) c.args.cid.now place (active_of meaning x)
    c.requires.rising e (sym c.rests_on.ensures ∙ c.if-rests_on.true) (ap (actives_of meaning) c.take_out.ensures.posted ∙ map_remove (active_of meaning) xs place)
    (removed_rises (active_of meaning) xs ys place (active_of meaning x) c.loop-posted.invariant.rising e c.take_out.ensures.posted)
    c.take_out.ensures.kept (c.take_out.ensures.withdraws (active_of meaning x) e) c.take_out.ensures.checks c.loop-posted.invariant

pub loop-posted-preserved : goal.loop-posted-preserved
loop-posted-preserved g c =
    let meaning = g.F.Filter.meaning in
    let xs = c.loop-posted.posted.items in
    let place = c.loop-posted.place in
    let x = c.at.result.now in
    let within = c.stands_negation.ensures.within c.loop-posted-test.true in
    let next : suc place ≡ place + 1 = omega arith in
    subst (λ n. IsWalked c.args.filtering.now (actives_of meaning c.args.posted.now.items) c.args.cid.now c.loop-posted.filtering (actives_of meaning xs) n) next
    (walked_past c.args.filtering.now c.loop-posted.filtering (actives_of meaning c.args.posted.now.items) (actives_of meaning xs) c.args.cid.now place (active_of meaning x)
    (at_place (active_of meaning) xs place x within c.at.ensures) (sym c.rests_on.ensures ∙ c.if-rests_on.false) c.loop-posted.invariant)

pub returns-clause-withdraws : goal.returns-clause-withdraws
returns-clause-withdraws g c =
    let meaning = g.F.Filter.meaning in
    let xs = c.loop-posted.posted.items in
    let place = c.loop-posted.place in
    walk_ends c.args.filtering.now c.loop-posted.filtering (actives_of meaning c.args.posted.now.items) (actives_of meaning xs) c.args.cid.now place c.loop-posted.invariant
    (rest_stands meaning xs place c.loop-posted.invariant.rising
    (c.stands_negation.ensures.other c.loop-posted-test.false)
    c.loop-posted.invariant.behind)
