use Rattle.std.proofs.Common.{◌≡◌, ◌∙◌, [], ap, arith, false, length, refl, slice_set, subst, sym}
use Rattle.palm_model.specs.State.{without_cid}
use Rattle.palm_agenda.specs.Agenda.{IsStanding, Takes, Waiting, index_within, connected_cids}
use Rattle.palm_agenda.specs.Flags.{FlagRow, flagged}
use Rattle.palm_agenda.proofs.cited.Connecting.{parted_standing}
use Rattle.palm_agenda.proofs.cited.Keeping.{answered_taken, lowered_at, no_pending, place_within, set_after, shown_connected, some_pending}
use Rattle.palm_agenda.proofs.agenda.Agenda.take_answered.Goals as goal

pub returns-then-is_empty-clause-none : goal.returns-then-is_empty-clause-none
returns-then-is_empty-clause-none g c = (
  subst (λ (w : Waiting). w.pending ≡ []) c.self.view_is
      (no_pending c.self.inside.connections c.self.inside.over.items c.self.inside.pending.flags _ c.self.invariant.0 c.is_empty.result c.is_empty.ensures c.if-is_empty.true),
  refl,
  refl,
)

pub take_chosen-cid-requires-clause-some : goal.take_chosen-cid-requires-clause-some
take_chosen-cid-requires-clause-some g c = λ none.
    some_pending c.self.inside.connections c.self.inside.over.items c.self.inside.pending.flags _ c.self.invariant.0 c.is_empty.result c.is_empty.ensures c.if-is_empty.false
    c.show.new.shown.items
    (c.show.ensures.cids ∙ ap (flagged (connected_cids c.self.inside.connections)) (c.as_slice.ensures ∙ ap (λ (f : FlagRow). f.flags) c.lowest-lowest.ensures.same)) none

pub lower-requires : goal.lower-requires
lower-requires g c =
    let shows = c.show.ensures.cids ∙ ap (flagged (connected_cids c.self.inside.connections)) (c.as_slice.ensures ∙ ap (λ (f : FlagRow). f.flags) c.lowest-lowest.ensures.same) in
    let within = place_within c.self.inside.connections c.self.invariant.0.formed.rising c.take_chosen-cid.result c.place_of-place.result
    c.place_of-place.ensures
    (shown_connected c.self.inside.connections c.self.inside.over.items c.self.inside.pending.flags _ c.self.invariant.0 c.show.new.shown.items c.show.new.shown.items shows refl
    (index_within c.next-answer.result (length c.show.new.shown.items)) c.take_chosen-cid.result c.take_chosen-cid.ensures.chosen) in
    let same = c.self.invariant.0.flag_each in
    let kept = ap (λ (f : FlagRow). length f.flags) c.lowest-lowest.ensures.same in
    omega arith

pub invariant_of-self : goal.invariant_of-self
invariant_of-self g c =
    let shows = c.show.ensures.cids ∙ ap (flagged (connected_cids c.self.inside.connections)) (c.as_slice.ensures ∙ ap (λ (f : FlagRow). f.flags) c.lowest-lowest.ensures.same) in (
      set_after c.self.inside.connections c.self.inside.over.items c.self.inside.pending.flags c.lower.new.self.flags _ _ c.place_of-place.result false c.self.invariant.0 (c.lower.ensures ∙ ap (λ (f : FlagRow). slice_set f.flags c.place_of-place.result false) c.lowest-lowest.ensures.same)
          (omega (arith, c.show.ensures.room, c.take_chosen-cid.ensures.room)),
      c.take_chosen-cid.ensures.left ∙ ap (without_cid c.take_chosen-cid.result) shows
          ∙ sym (lowered_at c.self.inside.connections c.self.invariant.0.formed.rising c.take_chosen-cid.result c.place_of-place.result
          c.place_of-place.ensures
          c.self.inside.pending.flags c.lower.new.self.flags c.self.invariant.0.flag_each
          (shown_connected c.self.inside.connections c.self.inside.over.items c.self.inside.pending.flags _ c.self.invariant.0 c.show.new.shown.items c.show.new.shown.items shows refl
          (index_within c.next-answer.result (length c.show.new.shown.items)) c.take_chosen-cid.result c.take_chosen-cid.ensures.chosen) (c.lower.ensures ∙ ap (λ (f : FlagRow). slice_set f.flags c.place_of-place.result false) c.lowest-lowest.ensures.same)),
      tt,
      c.self.invariant.3,
    )

pub returns-clause-some : goal.returns-clause-some
returns-clause-some g c =
    let shows = c.show.ensures.cids ∙ ap (flagged (connected_cids c.self.inside.connections)) (c.as_slice.ensures ∙ ap (λ (f : FlagRow). f.flags) c.lowest-lowest.ensures.same) in (
      c.next-answer.result,
      subst (λ (w : Waiting). Takes w.pending (flagged (connected_cids c.self.inside.connections) c.lower.new.self.flags) c.next-answer.result c.take_chosen-cid.result) c.self.view_is
          (answered_taken c.self.inside.connections c.self.inside.over.items c.self.inside.pending.flags c.lower.new.self.flags _ c.self.invariant.0 c.show.new.shown.items c.show.new.shown.items shows refl
          c.next-answer.result c.take_chosen-cid.result c.take_chosen-cid.ensures.chosen
          (lowered_at c.self.inside.connections c.self.invariant.0.formed.rising c.take_chosen-cid.result c.place_of-place.result
          c.place_of-place.ensures
          c.self.inside.pending.flags c.lower.new.self.flags c.self.invariant.0.flag_each
          (shown_connected c.self.inside.connections c.self.inside.over.items c.self.inside.pending.flags _ c.self.invariant.0 c.show.new.shown.items c.show.new.shown.items shows refl
          (index_within c.next-answer.result (length c.show.new.shown.items)) c.take_chosen-cid.result c.take_chosen-cid.ensures.chosen) (c.lower.ensures ∙ ap (λ (f : FlagRow). slice_set f.flags c.place_of-place.result false) c.lowest-lowest.ensures.same))),
      subst (λ cs. g.O.Order.answers c.args.order.now cs c.next-answer.result (g.O.Order.state c.next-answer.new.self)) (c.deref.ensures.value ∙ shows ∙ ap (λ (w : Waiting). w.pending) c.self.view_is) c.next-answer.ensures,
    )

pub returns-clause-standing : goal.returns-clause-standing
returns-clause-standing g c =
    let shows = c.show.ensures.cids ∙ ap (flagged (connected_cids c.self.inside.connections)) (c.as_slice.ensures ∙ ap (λ (f : FlagRow). f.flags) c.lowest-lowest.ensures.same) in
    subst (λ (w : Waiting). IsStanding w.connected (record { cid = c.take_chosen-cid.result; at = c.place_of-place.result })) c.self.view_is
    (parted_standing c.self.inside.connections c.self.invariant.0.formed.rising c.take_chosen-cid.result c.place_of-place.result
    c.place_of-place.ensures
    (shown_connected c.self.inside.connections c.self.inside.over.items c.self.inside.pending.flags _ c.self.invariant.0 c.show.new.shown.items c.show.new.shown.items shows refl
    (index_within c.next-answer.result (length c.show.new.shown.items)) c.take_chosen-cid.result c.take_chosen-cid.ensures.chosen))
