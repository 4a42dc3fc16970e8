use Rattle.std.proofs.Common.{◌+◌, pos, ◌+ℤ◌, subst}
use Rattle.palm_domain.specs.Rows.{Row, IsNextFrom, StandsIn}
use Rattle.palm_domain.proofs.RowMarks.{marked_within, next_is, next_none}
use Rattle.palm_domain.proofs.Standing.{after_standing, read_stands}
use Rattle.palm_domain.proofs.domain.Domain.next_placed.Goals as goal

pub returns-clause-next : goal.returns-clause-next
returns-clause-next c =
    let from = after_standing c.self.inside.initial.items c.self.invariant.0.ascends c.args.last.value c.args.last.place (rw (← c.self.view_is) at c.requires) in
    let found = c.in_ok-place.ensures in
    let next = next_is _ _ _ _ _ c.self.invariant.0 (c.args.last.value +ℤ pos 1) c.index.result.now (c.args.last.place + 1) c.in_ok-place.place from found.from found.marked found.between c.index.ensures in
    subst (λ (r : Row). IsNextFrom r.present (c.args.last.value +ℤ pos 1) c.index.result.now) c.self.view_is next

pub returns-clause-placed : goal.returns-clause-placed
returns-clause-placed c =
    let within = marked_within _ _ _ _ _ c.self.invariant.0 c.in_ok-place.place c.in_ok-place.ensures.marked in
    let stands = read_stands c.self.inside.initial.items c.in_ok-place.place c.index.result.now within c.index.ensures in
    subst (λ (r : Row). StandsIn r.initial (record { place = c.in_ok-place.place; value = c.index.result.now })) c.self.view_is stands

pub returns-in_err-place-clause-next : goal.returns-in_err-place-clause-next
returns-in_err-place-clause-next c =
    let from = after_standing c.self.inside.initial.items c.self.invariant.0.ascends c.args.last.value c.args.last.place (rw (← c.self.view_is) at c.requires) in
    let none = rw c.from.ensures at c.in_err-place.ensures.none in
    rw c.from_residual.ensures (λ w h. next_none _ _ _ _ _ c.self.invariant.0 (c.args.last.value +ℤ pos 1) (c.args.last.place + 1) from none w (rw (← c.self.view_is) at h))
