use Rattle.std.proofs.Common.{◌≡◌, sym, ap, ◌∙◌, length, take, length-set, get_or, ◌+◌, ◌<◌, arith}
use Rattle.palm_agenda.specs.declared.mark.Mark.TheVariants.{Clear}
use Rattle.palm_agenda.specs.Agenda.{marks_changed}
use Rattle.palm_agenda.specs.Marks.{changed}
use Rattle.palm_agenda.specs.Places.{is_place}
use Rattle.palm_agenda.proofs.cited.Marking.{marked_next, marked_past}
use Rattle.palm_agenda.proofs.connection.Connection.mark_each.Goals as goal
use Rattle.palm_agenda.proofs.connection.Connection.mark_each.Goals.{then-is_place, else-is_place}

pub loop-place-preserved : goal.loop-place-preserved
loop-place-preserved c = elim c.if-is_place.branch [
  | then-is_place w ↦ record {
    cid = ap (λ s. s.cid) w.self-inside-is ∙ c.loop-place.invariant.cid;
    scope = ap (λ s. s.scope) w.self-inside-is ∙ c.loop-place.invariant.scope;
    heeds = ap (λ s. s.heeds) w.self-inside-is ∙ c.loop-place.invariant.heeds;
    long =
        ap (λ s. length s.marks.items) w.self-inside-is ∙ ap length w.mark_one.ensures ∙ length-set c.loop-place.self-inside.marks.items c.loop-place.place (changed c.args.change.now (get_or c.loop-place.self-inside.marks.items c.loop-place.place Clear))
        ∙ c.loop-place.invariant.long ∙ ap (λ s. length s.scope) (sym w.self-inside-is);
    marked =
        marked_next (is_place c.args.places.now c.args.var.now) (changed c.args.change.now) c.loop-place.self-inside.scope c.as_slice.result.now c.self.inside.marks.items c.loop-place.self-inside.marks.items
        c.if-is_place.self-inside.marks.items c.loop-place.place c.index-as_slice-place.result c.as_slice.ensures c.index-as_slice-place.is (within c) c.loop-place.invariant.marked c.is_place.result
        c.is_place.ensures w.if-is_place.true (c.self.invariant ∙ ap length (sym c.loop-place.invariant.scope)) (ap (λ s. s.marks.items) w.self-inside-is ∙ w.mark_one.ensures)
        ∙ ap (λ s. marks_changed (is_place c.args.places.now c.args.var.now) (changed c.args.change.now) (take (c.loop-place.place + 1) s.scope) c.self.inside.marks.items) (sym w.self-inside-is);
  }
  | else-is_place w ↦ record {
    cid = ap (λ s. s.cid) w.self-inside-is ∙ c.loop-place.invariant.cid;
    scope = ap (λ s. s.scope) w.self-inside-is ∙ c.loop-place.invariant.scope;
    heeds = ap (λ s. s.heeds) w.self-inside-is ∙ c.loop-place.invariant.heeds;
    long = ap (λ s. length s.marks.items) w.self-inside-is ∙ c.loop-place.invariant.long ∙ ap (λ s. length s.scope) (sym w.self-inside-is);
    marked =
        marked_past (is_place c.args.places.now c.args.var.now) (changed c.args.change.now) c.loop-place.self-inside.scope c.as_slice.result.now c.self.inside.marks.items c.loop-place.self-inside.marks.items
        c.if-is_place.self-inside.marks.items c.loop-place.place c.index-as_slice-place.result c.as_slice.ensures c.index-as_slice-place.is (within c) c.loop-place.invariant.marked c.is_place.result
        c.is_place.ensures w.if-is_place.false (ap (λ s. s.marks.items) w.self-inside-is)
        ∙ ap (λ s. marks_changed (is_place c.args.places.now c.args.var.now) (changed c.args.change.now) (take (c.loop-place.place + 1) s.scope) c.self.inside.marks.items) (sym w.self-inside-is);
  }
]
  where
    within : (c : goal.Joined-is_place) → c.loop-place.place < length c.loop-place.self-inside.scope
    within c = let e : length c.loop-place.self-inside.scope ≡ length c.self.inside.scope = ap length c.loop-place.invariant.scope in omega arith
