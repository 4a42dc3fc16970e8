use Rattle.std.proofs.Common.{arith, subst}
use Rattle.palm_domain.specs.Rows.{Row, IsLeastOf}
use Rattle.palm_domain.proofs.RowMarks.{first_within, least_is}
use Rattle.palm_domain.proofs.domain.Domain.least.Goals as goal

pub index-requires : goal.index-requires
index-requires c =
    omega (arith, first_within _ _ _ _ _ c.self.invariant.0 (rw (← c.self.view_is) at c.requires), c.from.ensures, c.self.inside.initial.ok.0)

pub returns : goal.returns
returns c =
    let least = least_is _ _ _ _ _ c.self.invariant.0 c.index.result.now (rw (← c.self.view_is) at c.requires) (rw c.from.ensures at c.index.ensures) in
    subst (λ (r : Row). IsLeastOf r.present c.index.result.now) c.self.view_is least
