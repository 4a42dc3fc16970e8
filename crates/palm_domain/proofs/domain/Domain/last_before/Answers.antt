use Rattle.std.proofs.Common.{◌≡◌, ◌<◌, arith, subst}
use Rattle.palm_domain.specs.Rows.{Row, IsLastBefore}
use Rattle.palm_domain.proofs.RowMarks.{last_is, last_none}
use Rattle.palm_domain.proofs.domain.Domain.last_before.Goals as goal

pub returns-then-end-eq0 : goal.returns-then-end-eq0
returns-then-end-eq0 c w h =
    let from = rw c.deref.ensures.value at c.place_from-before.ensures in
    let zero : c.end_below-end.result ≡ 0 = omega (arith, c.if-end-eq0.true) in
    let none = rw zero at c.end_below-end.ensures.between in
    last_none _ _ _ _ _ c.self.invariant.0 c.args.value c.place_from-before.result from none w (rw (← c.self.view_is) at h)

pub returns-else-end-eq0 : goal.returns-else-end-eq0
returns-else-end-eq0 c =
    let from = rw c.deref.ensures.value at c.place_from-before.ensures in
    let some : 0 < c.end_below-end.result = omega (arith, c.if-end-eq0.false) in
    let last = last_is _ _ _ _ _ c.self.invariant.0 c.args.value c.index.result.now c.place_from-before.result c.end_below-end.result from
    c.end_below-end.ensures.within some (c.end_below-end.ensures.marked some) c.end_below-end.ensures.between c.index.ensures in
    subst (λ (r : Row). IsLastBefore r.present c.args.value c.index.result.now) c.self.view_is last
