use Rattle.std.proofs.Common.{◌≡◌, Some, ap, slice_get, ◌∙◌}
use Rattle.palm_model.specs.Log.{Active}
use Rattle.palm_model.specs.Event.{Withdraws}
use Rattle.palm_engine.specs.Kept.{IsEngine, state_of}
use Rattle.palm_engine.specs.Posted.{active_of, actives_of}
use Rattle.palm_engine.proofs.Placing.{placed_within, removed_cids, removed_rises}
use Rattle.palm_engine.proofs.cited.Withdrawing.{withdrawn_engine}
use Rattle.palm_engine.proofs.engine.Engine.withdraw.Given as given
use Rattle.palm_engine.proofs.engine.Engine.withdraw.Goals as goal
use Rattle.palm_engine.proofs.engine.Engine.withdraw.Goals.{After-place_of-place, After-take_out_resting}

-- the constraint under the id, and its place
placed : (g : given.Over) (c : After-place_of-place g) → (a : Active) × (a.cid ≡ c.args.cid) × (slice_get (actives_of g.F.Filter.meaning c.self.inside.posted.items) c.place_of-place.result ≡ Some a)
placed g c =
    let is = rw (← c.self.view_is) at c.requires in
    (is.owner, is.named, c.place_of-place.ensures.owner is.owner is.posted is.named)

-- what is left is an engine again, and the constraint is withdrawn
withdrawn : (g : given.Over) (c : After-take_out_resting g) → (a : Active) × (a.cid ≡ c.args.cid) × (slice_get (actives_of g.F.Filter.meaning c.self.inside.posted.items) c.place_of-place.result ≡ Some a)
    → IsEngine c.take_out_resting.new.filtering (actives_of g.F.Filter.meaning c.take_out_resting.new.posted.items)
    × Withdraws (state_of c.self.inside.filtering (actives_of g.F.Filter.meaning c.self.inside.posted.items)) c.args.cid (state_of c.take_out_resting.new.filtering (actives_of g.F.Filter.meaning c.take_out_resting.new.posted.items))
withdrawn g c is =
    let meaning = g.F.Filter.meaning in
    let xs = c.self.inside.posted.items in
    withdrawn_engine c.self.inside.filtering c.take_out.new.filtering c.take_out_resting.new.filtering (actives_of meaning xs) (actives_of meaning c.take_out.new.posted.items) (actives_of meaning c.take_out_resting.new.posted.items)
    c.args.cid is.0 c.self.invariant is.1 (ap (actives_of meaning) c.take_out.ensures.posted ∙ removed_cids (active_of meaning) xs c.place_of-place.result is.0 c.self.invariant.valid.rising is.2)
    (c.take_out.ensures.withdraws is.0 is.2) c.take_out_resting.ensures.withdraws c.take_out_resting.ensures.kept

pub take_out-requires-clause-within : goal.take_out-requires-clause-within
take_out-requires-clause-within g c =
    let is = placed g (goal.at.take_out-requires-clause-within g c).After-place_of-place in
    placed_within (active_of g.F.Filter.meaning) c.self.inside.posted.items c.place_of-place.result is.0 is.2

pub take_out_resting-requires-clause-rising : goal.take_out_resting-requires-clause-rising
take_out_resting-requires-clause-rising g c =
    let is = placed g (goal.at.take_out_resting-requires-clause-rising g c).After-place_of-place in
    removed_rises (active_of g.F.Filter.meaning) c.self.inside.posted.items c.take_out.new.posted.items c.place_of-place.result is.0 c.self.invariant.valid.rising is.2 c.take_out.ensures.posted

pub invariant_of-self : goal.invariant_of-self
invariant_of-self g c =
    let at = goal.at.invariant_of-self g c in
    (withdrawn g at.After-take_out_resting (placed g at.After-place_of-place)).0

pub returns-clause-withdraws : goal.returns-clause-withdraws
returns-clause-withdraws g c =
    let at = goal.at.returns-clause-withdraws g c in
    rw (← c.self.view_is) (withdrawn g at.After-take_out_resting (placed g at.After-place_of-place)).1

pub returns-clause-valid : goal.returns-clause-valid
returns-clause-valid g c = (invariant_of-self g c).valid
