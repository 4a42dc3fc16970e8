use Rattle.std.proofs.Common.{rules}
use Rattle.palm_domain.specs.Rows.{values_with}
use Rattle.palm_domain.proofs.KeptValues.{kept_marked}
use Rattle.palm_domain.proofs.RowMarks.{row-changed, removed_place, AreMarks-marked, count_small}
use Rattle.palm_domain.proofs.domain.Domain.put_back.Goals as goal

pub overflow_add-self : goal.overflow_add-self
overflow_add-self c =
    let small = count_small _ _ _ _ _ c.self.invariant.0 in search (rules, small)

pub invariant_of-self : goal.invariant_of-self
invariant_of-self c =
    let from = rw c.deref.ensures.value at c.place_from-place.ensures in
    let at = removed_place _ _ _ _ _ c.self.invariant.0 c.args.value c.place_from-place.result from (rw (← c.self.view_is) at c.requires.declared) (rw (← c.self.view_is) at c.requires.removed) in
    let marks = AreMarks-marked _ _ _ _ _ c.self.invariant.0 _ c.place_from-place.result c.args.value at.0 at.1 at.2 c.set.ensures.here c.set.ensures.others in
    (rw (c.min-self-inside.ensures, c.max-self-inside.ensures) marks, c.self.invariant.1)

pub returns : goal.returns
returns c =
    let from = rw c.deref.ensures.value at c.place_from-place.ensures in
    let at = removed_place _ _ _ _ _ c.self.invariant.0 c.args.value c.place_from-place.result from (rw (← c.self.view_is) at c.requires.declared) (rw (← c.self.view_is) at c.requires.removed) in
    let more = kept_marked _ _ _ c.self.invariant.0.ascends c.place_from-place.result c.args.value at.0 at.1 c.set.ensures.others at.2 c.set.ensures.here in
    row-changed (values_with c.args.value) _ _ _ _ c.self.view_is more
