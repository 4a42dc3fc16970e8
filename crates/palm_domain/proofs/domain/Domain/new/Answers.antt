use Rattle.std.proofs.Common.{ap, refl}
use Rattle.palm_domain.proofs.RowMarks.{AreMarks-new, kept-new, row}
use Rattle.palm_domain.proofs.domain.Domain.new.Goals as goal

pub invariant_of-result : goal.invariant_of-result
invariant_of-result c =
    (rw c.in_ok-from_slice.ensures.items (AreMarks-new _ c.args.values.now _ c.requires.ascend c.requires.filled c.requires.small refl c.of_first.ensures), rw c.in_ok-from_slice.ensures.items c.is_gapless.ensures)

pub returns : goal.returns
returns c =
    rw c.in_ok-from_slice.ensures.items (ap (row c.args.values.now) (kept-new _ c.args.values.now _ refl c.of_first.ensures))
