use Rattle.std.proofs.Common.{◌≡◌, ◌⊎◌, ◌↔◌, insert, ap, ◌∙◌, subst, Contains}
use Rattle.palm_base.specs.declared.terms.Cid.{Cid}
use Rattle.palm_base.specs.Order.{cid_before, IsPartedAt}
use Rattle.palm_model.specs.Log.{IsActive}
use Rattle.palm_agenda.specs.Agenda.{marked_whole, with_connected}
use Rattle.palm_engine.specs.Posted.{active_of, actives_of}
use Rattle.palm_engine.proofs.Placing.{inserted_cids}
use Rattle.palm_engine.proofs.Scopes.{connected_is_active, heeds_fit}
use Rattle.palm_engine.proofs.posting.insert.Goals as goal

pub connect-requires : goal.connect-requires
connect-requires g c =
    let active = actives_of g.F.Filter.meaning c.args.posted.now.items in
    record { new = λ is. c.requires.inactive (subst (IsActive active) c.cid-cid.ensures (connected_is_active active c.args.agenda.now.connected c.requires.connected c.cid-cid.result is)) }

pub returns-clause-active : goal.returns-clause-active
returns-clause-active g c =
    let meaning = g.F.Filter.meaning in
    let before = c.args.posted.now.items in
    let place = c.place_of-place.result in
    let new = c.args.constraint in
    let here = subst (λ d. IsPartedAt (λ p. cid_before (active_of meaning p).cid d) before place) c.cid-cid.ensures c.place_of-place.ensures.parted in
    ap (actives_of meaning) (c.insert.ensures ∙ ap (λ xs. insert xs place new) c.reserve.ensures.items)
    ∙ inserted_cids (active_of meaning) before new place c.requires.rising here c.requires.inactive

pub returns-clause-connected : goal.returns-clause-connected
returns-clause-connected g c =
    let a = active_of g.F.Filter.meaning c.args.constraint in
    let heeds = c.in_ok-heeds.heeds.items in (
      heeds,
      heeds_fit a heeds c.in_ok-heeds.ensures.fit,
      c.in_ok-connect.ensures.connected
          ∙ ap (λ cid. with_connected (marked_whole cid c.scope.result.now heeds) c.args.agenda.now.connected) c.cid-cid.ensures
          ∙ ap (λ vars. with_connected (marked_whole a.cid vars heeds) c.args.agenda.now.connected) c.scope.ensures.scope,
    )

pub returns-clause-pending : goal.returns-clause-pending
returns-clause-pending g c =
    subst (λ d. (e : Cid) → Contains c.connect.new.self.pending e ↔ (Contains c.args.agenda.now.pending e ⊎ (e ≡ d))) c.cid-cid.ensures c.in_ok-connect.ensures.pending
