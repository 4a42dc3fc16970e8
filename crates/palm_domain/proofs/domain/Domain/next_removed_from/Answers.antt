use Rattle.std.proofs.Common.{Contains, arith, subst}
use Rattle.palm_domain.specs.Rows.{Row, IsNextRemovedFrom}
use Rattle.palm_domain.proofs.RowMarks.{next_removed_is, next_removed_none}
use Rattle.palm_domain.proofs.domain.Domain.next_removed_from.Goals as goal

pub returns-then-place-len : goal.returns-then-place-len
returns-then-place-len c =
    let from = rw c.deref.ensures.value at c.place_from-from.ensures in
    let found = c.in_ok-place.ensures in
    let ok = c.self.inside.initial.ok.0 in
    let next = next_removed_is _ _ _ _ _ c.self.invariant.0 _ c.flipped.ensures c.args.value c.index.result.now c.place_from-from.result c.in_ok-place.place from found.from (omega arith) found.marked found.between c.index.ensures in
    subst (λ (r : Row). IsNextRemovedFrom r.initial r.present c.args.value c.index.result.now) c.self.view_is next

pub returns-else-place-len : goal.returns-else-place-len
returns-else-place-len c w h high =
    let from = rw c.deref.ensures.value at c.place_from-from.ensures in
    let ok = c.self.inside.initial.ok.0 in
    let there = next_removed_none _ _ _ _ _ c.self.invariant.0 _ c.flipped.ensures c.args.value c.place_from-from.result c.in_ok-place.place from (omega arith) c.in_ok-place.ensures.between w (rw (← c.self.view_is) at h) high in
    subst (λ (r : Row). Contains r.present w) c.self.view_is there

pub returns-in_err-place : goal.returns-in_err-place
returns-in_err-place c =
    let from = rw c.deref.ensures.value at c.place_from-from.ensures in
    let ok = c.self.inside.initial.ok.0 in
    rw c.from_residual.ensures (λ w h high.
    let there = next_removed_none _ _ _ _ _ c.self.invariant.0 _ c.flipped.ensures c.args.value c.place_from-from.result c.len.result from (omega arith) c.in_err-place.ensures.none w (rw (← c.self.view_is) at h) high in
    subst (λ (r : Row). Contains r.present w) c.self.view_is there)
