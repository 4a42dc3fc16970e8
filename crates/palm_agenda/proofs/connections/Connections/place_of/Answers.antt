use Rattle.std.proofs.Common.{◌+◌, arith, subst, sym}
use Rattle.palm_base.specs.Order.{IsPartedAt, Rises}
use Rattle.palm_agenda.specs.Agenda.{connected_cids}
use Rattle.palm_agenda.proofs.Joined.{before, parted_behind, parted_front, rises_behind, rises_front}
use Rattle.palm_agenda.proofs.connections.Connections.place_of.Goals as goal

pub place_in-place-requires : goal.place_in-place-requires
place_in-place-requires c =
    subst (λ ds. Rises (connected_cids ds)) (sym c.deref.ensures.value) (rises_front c.self.inside.front.items c.self.inside.users.items (subst (λ ds. Rises (connected_cids ds)) (sym c.self.view_is) c.requires))

pub place_in-requires : goal.place_in-requires
place_in-requires c =
    subst (λ ds. Rises (connected_cids ds)) (sym c.deref-2.ensures.value) (rises_behind c.self.inside.front.items c.self.inside.users.items (subst (λ ds. Rises (connected_cids ds)) (sym c.self.view_is) c.requires))

pub returns-then-place-len : goal.returns-then-place-len
returns-then-place-len c =
    let front = c.self.inside.front.items in
    let users = c.self.inside.users.items in
    subst (λ ds. IsPartedAt (before c.args.cid.now) ds c.place_in-place.result) c.self.view_is
    (parted_front front users (subst (λ ds. Rises (connected_cids ds)) (sym c.self.view_is) c.requires) c.args.cid.now c.place_in-place.result
    (subst (λ ds. IsPartedAt (before c.args.cid.now) ds c.place_in-place.result) c.deref.ensures.value c.place_in-place.ensures)
    (omega (arith, c.if-place-len.true, c.len.ensures, c.self.inside.front.ok.0)))

pub returns : goal.returns
returns c =
    let front = c.self.inside.front.items in
    let users = c.self.inside.users.items in
    subst (λ ds. IsPartedAt (before c.args.cid.now) ds (c.place_in-place.result + c.place_in.result)) c.self.view_is
    (parted_behind front users (subst (λ ds. Rises (connected_cids ds)) (sym c.self.view_is) c.requires) c.args.cid.now c.place_in-place.result
    (subst (λ ds. IsPartedAt (before c.args.cid.now) ds c.place_in-place.result) c.deref.ensures.value c.place_in-place.ensures) c.place_in.result
    (omega (arith, c.if-place-len.false, c.len.ensures, c.self.inside.front.ok.0))
    (subst (λ ds. IsPartedAt (before c.args.cid.now) ds c.place_in.result) c.deref-2.ensures.value c.place_in.ensures))
