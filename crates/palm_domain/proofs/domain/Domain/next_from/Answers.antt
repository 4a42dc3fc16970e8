use Rattle.std.proofs.Common.{subst}
use Rattle.palm_domain.specs.Rows.{Row, IsNextFrom}
use Rattle.palm_domain.proofs.RowMarks.{next_is, next_none}
use Rattle.palm_domain.proofs.domain.Domain.next_from.Goals as goal

pub returns : goal.returns
returns c =
    let from = rw c.deref.ensures.value at c.place_from-from.ensures in
    let found = c.in_ok-place.ensures in
    let next = next_is _ _ _ _ _ c.self.invariant.0 c.args.value c.index.result.now c.place_from-from.result c.in_ok-place.place from found.from found.marked found.between c.index.ensures in
    subst (λ (r : Row). IsNextFrom r.present c.args.value c.index.result.now) c.self.view_is next

pub returns-in_err-place : goal.returns-in_err-place
returns-in_err-place c =
    let from = rw c.deref.ensures.value at c.place_from-from.ensures in
    let none = rw c.from.ensures at c.in_err-place.ensures.none in
    rw c.from_residual.ensures (λ w h. next_none _ _ _ _ _ c.self.invariant.0 c.args.value c.place_from-from.result from none w (rw (← c.self.view_is) at h))
