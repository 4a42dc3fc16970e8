use Rattle.std.proofs.Common.{rules}
use Rattle.palm_read.proofs.HeldLemmas.{linear_held}
use Rattle.palm_read.proofs.reader.cursor.Cursor.linear.Goals as goal

pub returns : goal.returns
returns c =
    linear_held _ _ _ _ _ _ _ c.in_ok-terms.ensures c.in_ok-op.ensures (search rules) c.in_ok-bound.ensures
