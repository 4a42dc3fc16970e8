use Rattle.std.proofs.Common.{arith, subst}
use Rattle.palm_domain.specs.Rows.{Row, IsGreatestOf}
use Rattle.palm_domain.proofs.RowMarks.{end_within, greatest_is}
use Rattle.palm_domain.proofs.domain.Domain.greatest.Goals as goal

pub overflow_sub-from : goal.overflow_sub-from
overflow_sub-from c =
    omega (arith, end_within _ _ _ _ _ c.self.invariant.0 (rw (← c.self.view_is) at c.requires), c.from.ensures)

pub index-requires : goal.index-requires
index-requires c =
    omega (arith, end_within _ _ _ _ _ c.self.invariant.0 (rw (← c.self.view_is) at c.requires), c.from.ensures, c.self.inside.initial.ok.0)

pub returns : goal.returns
returns c =
    let greatest = greatest_is _ _ _ _ _ c.self.invariant.0 c.index.result.now (rw (← c.self.view_is) at c.requires) (rw c.from.ensures at c.index.ensures) in
    subst (λ (r : Row). IsGreatestOf r.present c.index.result.now) c.self.view_is greatest
