use Rattle.std.proofs.Common.{subst}
use Rattle.palm_domain.specs.Rows.{IsFormed}
use Rattle.palm_domain.proofs.RowMarks.{formed}
use Rattle.palm_domain.proofs.domain.Domain.initial.Goals as goal

pub returns-clause-formed : goal.returns-clause-formed
returns-clause-formed c = subst IsFormed c.self.view_is (formed _ _ _ _ _ c.self.invariant.0)
