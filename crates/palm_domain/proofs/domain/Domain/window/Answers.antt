use Rattle.std.proofs.Common.{subst}
use Rattle.palm_domain.specs.Rows.{Row, IsWindow}
use Rattle.palm_domain.proofs.RowMarks.{window_is}
use Rattle.palm_domain.proofs.domain.Domain.window.Goals as goal

pub returns-clause-window : goal.returns-clause-window
returns-clause-window c =
    let run = rw c.deref.ensures.value at c.in_ok-place.ensures in
    subst (λ (r : Row). IsWindow r.present c.args.first c.window.result) c.self.view_is
    (window_is _ _ _ _ _ c.self.invariant.0 c.args.first c.in_ok-place.place c.window.result run c.window.ensures)
