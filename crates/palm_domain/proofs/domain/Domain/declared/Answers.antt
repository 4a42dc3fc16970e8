use Rattle.std.proofs.Common.{◌≡◌, ℕ, ℤ, List, Contains, Option, Some, None, MatchOption, is_some, slice_get, subst, sym}
use Rattle.palm_base.proofs.cited.Members.{member_get}
use Rattle.palm_base.specs.Tells.{Tells}
use Rattle.palm_domain.specs.Rows.{IsFormed, Row}
use Rattle.palm_domain.proofs.RowMarks.{formed}
use Rattle.palm_domain.proofs.domain.Domain.declared.Goals as goal

member_of_some : (xs : List ℤ) (v : ℤ) (r : Option ℕ) → MatchOption r (Contains xs v → ⊥) (λ place. slice_get xs place ≡ Some v) → Tells (is_some r) (Contains xs v)
member_of_some xs v None h = h
member_of_some xs v (Some place) h = member_get xs place v h

pub returns-clause-tells : goal.returns-clause-tells
returns-clause-tells c =
    subst (λ (r : Row). Tells c.is_some.result (Contains r.initial c.args.value)) c.self.view_is
    (subst (λ b. Tells b (Contains c.self.inside.initial.items c.args.value)) (sym c.is_some.ensures)
    (member_of_some _ c.args.value c.place_of.result (rw c.deref.ensures.value at c.place_of.ensures)))

pub returns-clause-formed : goal.returns-clause-formed
returns-clause-formed c = subst IsFormed c.self.view_is (formed _ _ _ _ _ c.self.invariant.0)
