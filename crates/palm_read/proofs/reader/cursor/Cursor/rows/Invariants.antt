use Rattle.std.proofs.Common.{length, map, []}
use Rattle.palm_read.specs.Reader.Held.{held_value}
use Rattle.palm_read.specs.Reader.Lists.{next_row}
use Rattle.palm_read.proofs.cited.Many.{Running}
use Rattle.palm_read.proofs.reader.cursor.Cursor.rows.Given as goal

abbrev pub invariant-loop-rows : goal.invariant-loop-rows
invariant-loop-rows l = Running (next_row l.width) (map held_value) l.initial.self l.self [] l.rows

abbrev pub decreases-loop-rows : goal.decreases-loop-rows
decreases-loop-rows l = length l.self
