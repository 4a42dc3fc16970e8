use Rattle.std.proofs.Common.{◌≡◌, ◌∙◌, ℕ, Contains, ap, false, get_or, refl, subst, arith, insert, true, vec_capacity}
use Rattle.palm_agenda.specs.Agenda.{Connected, HeedsAlone, Waiting, IsConnected, marked_whole, with_connected}
use Rattle.palm_agenda.proofs.cited.Connecting.{connected_at}
use Rattle.palm_agenda.proofs.cited.Keeping.{connected_after, grown_after, pending_with}
use Rattle.palm_agenda.proofs.Alone.{heedful_less, heedful_with}
use Rattle.palm_agenda.proofs.agenda.Agenda.connect.Goals as goal
use Rattle.palm_agenda.proofs.agenda.Agenda.connect.Goals.{After-insert_over}

pub invariant_of-self : goal.invariant_of-self
invariant_of-self c = (
  grown_after c.self.inside.connections c.self.inside.over.items c.make_room_for.new.over.items c.self.inside.pending.flags c.make_room_for.new.pending.flags _ _ c.self.invariant.0 c.make_room_for.ensures.cids c.make_room_for.ensures.flags c.make_room_for.ensures.grows,
  tt,
  tt,
  c.self.invariant.3,
)

pub invariant_of-self-in_err-connection : goal.invariant_of-self-in_err-connection
invariant_of-self-in_err-connection c = (
  grown_after c.self.inside.connections c.self.inside.over.items c.make_room_for.new.over.items c.self.inside.pending.flags c.make_room_for.new.pending.flags _ _ c.self.invariant.0 c.make_room_for.ensures.cids c.make_room_for.ensures.flags c.make_room_for.ensures.grows,
  tt,
  tt,
  c.self.invariant.3,
)

pub invariant_of-self-in_err-note_heeds : goal.invariant_of-self-in_err-note_heeds
invariant_of-self-in_err-note_heeds c = (
  grown_after c.self.inside.connections c.self.inside.over.items c.make_room_for.new.over.items c.self.inside.pending.flags c.make_room_for.new.pending.flags _ _ c.self.invariant.0 c.make_room_for.ensures.cids c.make_room_for.ensures.flags c.make_room_for.ensures.grows,
  tt,
  tt,
  heedful_less c.self.inside.heedful.items c.note_heeds.new.heedful.items c.self.inside.connections c.note_heeds.ensures.stay c.self.invariant.3,
)

pub invariant_of-self-in_err-insert : goal.invariant_of-self-in_err-insert
invariant_of-self-in_err-insert c = (
  rw c.in_err-insert.ensures.err
      (grown_after c.self.inside.connections c.self.inside.over.items c.make_room_for.new.over.items c.self.inside.pending.flags c.make_room_for.new.pending.flags _ _ c.self.invariant.0 c.make_room_for.ensures.cids c.make_room_for.ensures.flags c.make_room_for.ensures.grows),
  tt,
  tt,
  rw c.in_err-insert.ensures.err
      (heedful_less c.self.inside.heedful.items c.note_heeds.new.heedful.items c.self.inside.connections c.note_heeds.ensures.stay c.self.invariant.3),
)

is_inserted : (c : After-insert_over) → c.insert.new.self ≡ insert c.self.inside.connections c.place_of-place.result (marked_whole c.args.cid c.args.scope.now c.args.heeds.items)
is_inserted c =
    c.in_ok-insert.ensures.ok
    ∙ ap (insert c.self.inside.connections c.place_of-place.result) (c.in_ok-connection.ensures ∙ ap (λ cid. marked_whole cid c.args.scope.now c.args.heeds.items) c.copy.ensures)

is_absent : (c : After-insert_over) → IsConnected c.self.inside.connections c.args.cid → ⊥
is_absent c is = c.requires.new (subst (λ (w : Waiting). IsConnected w.connected c.args.cid) c.self.view_is is)

is_with : (c : After-insert_over) → c.insert.new.self ≡ with_connected (marked_whole c.args.cid c.args.scope.now c.args.heeds.items) c.self.inside.connections
is_with c =
    is_inserted c
    ∙ connected_at c.self.inside.connections c.self.invariant.0.formed.rising c.args.cid c.place_of-place.result
    c.place_of-place.ensures (is_absent c) (marked_whole c.args.cid c.args.scope.now c.args.heeds.items) refl

-- it heeds where one value is left alone, where a variable of it is not noted
heeds_alone : (c : After-insert_over) (x : ℕ) → get_or c.note_heeds.new.heedful.items x false ≡ false → Contains c.args.scope.now x → HeedsAlone (marked_whole c.args.cid c.args.scope.now c.args.heeds.items)
heeds_alone c =
    subst (λ (d : Connected). (x : ℕ) → get_or c.note_heeds.new.heedful.items x false ≡ false → Contains d.scope x → HeedsAlone d)
    (c.in_ok-connection.ensures ∙ ap (λ cid. marked_whole cid c.args.scope.now c.args.heeds.items) c.copy.ensures) c.in_ok-note_heeds.ensures.alone

pub invariant_of-self-2 : goal.invariant_of-self-2
invariant_of-self-2 c = (
  connected_after c.self.inside.connections c.make_room_for.new.over.items c.insert_over.new.over.items c.make_room_for.new.pending.flags c.insert-2.new.self.flags _ _ c.args.cid c.args.scope.now c.args.heeds.items c.place_of-place.result
      (grown_after c.self.inside.connections c.self.inside.over.items c.make_room_for.new.over.items c.self.inside.pending.flags c.make_room_for.new.pending.flags _ (vec_capacity c.make_room_for.new.shown) c.self.invariant.0 c.make_room_for.ensures.cids c.make_room_for.ensures.flags c.make_room_for.ensures.grows)
      c.place_of-place.ensures (is_absent c)
      c.insert.new.self (is_inserted c) c.insert_over.ensures c.insert-2.ensures (omega (arith, c.in_ok-make_room_for.ensures.shown, c.len-count.ensures.many, c.len-count.ensures.few)),
  tt,
  tt,
  heedful_with (marked_whole c.args.cid c.args.scope.now c.args.heeds.items) c.note_heeds.new.heedful.items c.self.inside.connections c.insert.new.self (is_with c)
      (heedful_less c.self.inside.heedful.items c.note_heeds.new.heedful.items c.self.inside.connections c.note_heeds.ensures.stay c.self.invariant.3) (heeds_alone c),
)

pub returns-clause-connected : goal.returns-clause-connected
returns-clause-connected c = rw (← c.self.view_is) (is_with c)

pub returns-clause-pending : goal.returns-clause-pending
returns-clause-pending c =
    rw (← c.self.view_is)
    (pending_with c.self.inside.connections c.self.inside.over.items c.self.inside.over.items c.self.inside.pending.flags c.insert-2.new.self.flags _ 0 c.args.cid c.args.scope.now c.args.heeds.items c.place_of-place.result c.self.invariant.0
    c.place_of-place.ensures (is_absent c)
    c.insert.new.self (is_inserted c) (c.insert-2.ensures ∙ ap (λ fs. insert fs c.place_of-place.result true) c.make_room_for.ensures.flags))

pub returns-clause-formed : goal.returns-clause-formed
returns-clause-formed c = (invariant_of-self-2 c).0.formed
