use Rattle.std.proofs.Common.{length}
use Rattle.palm_read.specs.Reader.Held.{held_value}
use Rattle.palm_read.specs.Reader.Lists.{next_value}
use Rattle.palm_read.proofs.cited.Many.{Running}
use Rattle.palm_read.proofs.reader.cursor.Cursor.more_values.Given as goal

abbrev pub invariant-loop-values : goal.invariant-loop-values
invariant-loop-values l = Running next_value held_value l.initial.self l.self l.initial.values l.values

abbrev pub decreases-loop-values : goal.decreases-loop-values
decreases-loop-values l = length l.self
