use Rattle.std.proofs.Common.{arith}
use Rattle.palm_domain.specs.Rows.{values_without}
use Rattle.palm_domain.proofs.KeptValues.{kept_cleared}
use Rattle.palm_domain.proofs.RowMarks.{row-changed, present_place, AreMarks-cleared, IsFirstFrom-unwrap_or}
use Rattle.palm_domain.proofs.domain.Domain.take_out.Goals as goal

pub clear-requires : goal.clear-requires
clear-requires c =
    let from = rw c.deref.ensures.value at c.place_from-place.ensures in
    let at = present_place _ _ _ _ _ c.self.invariant.0 c.args.value c.place_from-place.result from (rw (← c.self.view_is) at c.requires) in
    omega (arith, at.0, c.self.invariant.0.small)

pub invariant_of-self : goal.invariant_of-self
invariant_of-self c =
    let from = rw c.deref.ensures.value at c.place_from-place.ensures in
    let at = present_place _ _ _ _ _ c.self.invariant.0 c.args.value c.place_from-place.result from (rw (← c.self.view_is) at c.requires) in
    let found = rw c.from.ensures at c.next_set.ensures in
    let next = IsFirstFrom-unwrap_or _ _ _ c.self.invariant.0.first_small found.from found.within found.marked found.between found.none in
    let first = rw (← c.unwrap_or.ensures) at next in
    let last = rw c.from-2.ensures at c.end_below.ensures in
    (AreMarks-cleared _ _ _ _ _ c.self.invariant.0 _ c.place_from-place.result c.args.value at.0 at.1 at.2 c.clear.ensures.here c.clear.ensures.others c.unwrap_or.result c.end_below.result first.from_le first.small first.marked first.between last.within last.marked last.between, c.self.invariant.1)

pub returns : goal.returns
returns c =
    let from = rw c.deref.ensures.value at c.place_from-place.ensures in
    let at = present_place _ _ _ _ _ c.self.invariant.0 c.args.value c.place_from-place.result from (rw (← c.self.view_is) at c.requires) in
    let fewer = kept_cleared _ _ _ c.self.invariant.0.ascends c.place_from-place.result c.args.value at.0 at.1 c.clear.ensures.others c.clear.ensures.here in
    row-changed (values_without c.args.value) _ _ _ _ c.self.view_is fewer
