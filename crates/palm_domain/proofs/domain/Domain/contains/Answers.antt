use Rattle.std.proofs.Common.{subst, sym, ◌∙◌, Contains}
use Rattle.palm_base.proofs.cited.Telling.{tells_both}
use Rattle.palm_domain.specs.Rows.{Row}
use Rattle.palm_domain.proofs.RowMarks.{present_at, removed_at}
use Rattle.palm_domain.proofs.KeptValues.{kept_inside}
use Rattle.palm_domain.proofs.domain.Domain.contains.Goals as goal

pub returns-in-Some : goal.returns-in-Some
returns-in-Some c =
    let at = rw c.deref.ensures.value at c.in-Some.ensures in
    tells_both (Contains c.args.self.now.present c.args.value) c.has.result
    (λ e. subst (λ (r : Row). Contains r.present c.args.value) c.self.view_is (present_at _ _ _ _ _ c.self.invariant.0 c.in-Some.place c.args.value at (sym c.has.ensures ∙ e)))
    (λ e h. removed_at _ _ _ _ _ c.self.invariant.0 c.in-Some.place c.args.value at (sym c.has.ensures ∙ e) (rw (← c.self.view_is) at h))

pub returns-in-None : goal.returns-in-None
returns-in-None c h =
    let none = rw c.deref.ensures.value at c.in-None.ensures in none (kept_inside _ 0 _ c.args.value (rw (← c.self.view_is) at h))
