use Rattle.std.proofs.Common.{◌∙◌, arith, refl, subst, sym}
use Rattle.palm_agenda.specs.Agenda.{Connected}
use Rattle.palm_agenda.specs.Heard.{ChangesAt}
use Rattle.palm_agenda.specs.Losses.{heed_of}
use Rattle.palm_agenda.specs.Open.{Covers}
use Rattle.palm_agenda.specs.Places.{mark_places}
use Rattle.palm_agenda.proofs.cited.Connecting.{over_connected}
use Rattle.palm_agenda.proofs.cited.Keeping.{changed_here, holds_here, keeps_places, over_here, owner_is, place_within, woken_at}
use Rattle.palm_agenda.proofs.agenda.wake_named.Goals as goal

pub place_near-place-requires : goal.place_near-place-requires
place_near-place-requires c = record { rising = c.requires.rising; run = c.requires.run; there = over_connected c.args.connections.now c.args.var.now c.args.cid.now c.requires.over }

pub at-requires : goal.at-requires
at-requires c =
    place_within c.args.connections.now c.requires.rising c.args.cid.now c.place_near-place.result c.place_near-place.ensures (over_connected c.args.connections.now c.args.var.now c.args.cid.now c.requires.over)

pub mark-requires-clause-within : goal.mark-requires-clause-within
mark-requires-clause-within c =
    place_within c.args.connections.now c.requires.rising c.args.cid.now c.place_near-place.result c.place_near-place.ensures (over_connected c.args.connections.now c.args.var.now c.args.cid.now c.requires.over)

pub mark-requires-clause-over : goal.mark-requires-clause-over
mark-requires-clause-over c = λ d here.
    over_here c.args.connections.now c.requires.rising c.args.cid.now c.place_near-place.result c.place_near-place.ensures
    c.args.var.now c.requires.over d here

pub mark-requires-clause-changes : goal.mark-requires-clause-changes
mark-requires-clause-changes c = λ d here.
    let is = over_connected c.args.connections.now c.args.var.now c.args.cid.now c.requires.over in
    let owner = owner_is c.args.connections.now c.requires.rising c.args.cid.now c.place_near-place.result c.place_near-place.ensures is in
    subst (λ (e : Connected). ChangesAt c.hear.new.self.change c.args.places.now (heed_of c.args.var.now e.scope e.heeds)) (owner c.at.result.now c.at.ensures ∙ sym (owner d here))
    (c.heed_for-heed.ensures c.hear.new.self c.hear.ensures.heard).changes

pub raise-requires : goal.raise-requires
raise-requires c =
    let within = place_within c.args.connections.now c.requires.rising c.args.cid.now c.place_near-place.result c.place_near-place.ensures (over_connected c.args.connections.now c.args.var.now c.args.cid.now c.requires.over) in
    let same = c.requires.flags in
    omega arith

pub returns-clause-marks : goal.returns-clause-marks
returns-clause-marks c =
    c.mark.ensures c.at.result.now c.at.ensures
    ∙ changed_here c.args.connections.now c.requires.rising c.args.cid.now c.place_near-place.result c.place_near-place.ensures
    (mark_places c.args.places.now c.args.var.now) (over_connected c.args.connections.now c.args.var.now c.args.cid.now c.requires.over)
    c.at.result.now (mark_places c.args.places.now c.args.var.now c.at.result.now) c.at.ensures refl

pub returns-clause-pending : goal.returns-clause-pending
returns-clause-pending c =
    woken_at c.args.connections.now _ c.args.pending.now.flags c.raise.new.self.flags c.args.cid.now c.place_near-place.result c.args.var.now (mark_places c.args.places.now c.args.var.now)
    (keeps_places c.args.places.now c.args.var.now) c.requires.rising c.requires.flags
    c.place_near-place.ensures
    c.requires.over (returns-clause-marks c) c.raise.ensures

pub returns-clause-covers : goal.returns-clause-covers
returns-clause-covers c =
    holds_here c.args.connections.now c.requires.rising c.args.cid.now c.place_near-place.result
    c.place_near-place.ensures
    c.at.result.now c.at.ensures
    (λ (d : Connected). Covers c.hear.new.self.still c.args.places.now (heed_of c.args.var.now d.scope d.heeds))
    (c.heed_for-heed.ensures c.hear.new.self c.hear.ensures.heard).covers
