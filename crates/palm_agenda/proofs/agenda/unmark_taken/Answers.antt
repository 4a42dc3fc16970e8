use Rattle.std.proofs.Common.{◌∙◌, ◌<◌, length, refl, subst, sym}
use Rattle.std.proofs.lemmas.Option.{get_or_from_slice_get}
use Rattle.palm_agenda.specs.Agenda.{Connected, unmarked}
use Rattle.palm_agenda.proofs.cited.Connecting.{place_connected, standing_connected, standing_owner, standing_parted}
use Rattle.palm_agenda.proofs.cited.Keeping.{changed_here, owner_is, place_within}
use Rattle.palm_agenda.proofs.agenda.unmark_taken.Goals as goal

pub unmark-requires-clause-within : goal.unmark-requires-clause-within
unmark-requires-clause-within c =
    place_within c.args.connections.now c.requires.rising c.args.taken.now.cid c.args.taken.now.at
    (standing_parted c.args.connections.now c.requires.rising c.args.taken.now c.requires.standing)
    (standing_connected c.args.connections.now c.args.taken.now c.requires.standing)

pub unmark-requires-clause-marked : goal.unmark-requires-clause-marked
unmark-requires-clause-marked c = λ d here.
    let at = standing_parted c.args.connections.now c.requires.rising c.args.taken.now c.requires.standing in
    subst (λ (e : Connected). c.args.place < length e.scope)
    (sym (owner_is c.args.connections.now c.requires.rising c.args.taken.now.cid c.args.taken.now.at at
    (place_connected c.args.connections.now c.args.taken.now.cid c.args.place c.requires.within) d here))
    c.requires.within.within

pub returns : goal.returns
returns c =
    let owner = standing_owner c.args.connections.now c.args.taken.now c.requires.standing in
    let here = sym (get_or_from_slice_get c.args.connections.now c.args.taken.now.at owner.0 owner.0 owner.1) in
    c.unmark.ensures owner.0 here
    ∙ changed_here c.args.connections.now c.requires.rising c.args.taken.now.cid c.args.taken.now.at
    (standing_parted c.args.connections.now c.requires.rising c.args.taken.now c.requires.standing)
    (unmarked c.args.place) (standing_connected c.args.connections.now c.args.taken.now c.requires.standing) owner.0 (unmarked c.args.place owner.0) here refl
