use Rattle.std.proofs.Common.{length, []}
use Rattle.palm_read.proofs.cited.Many.{Running}
use Rattle.text_check.proofs.items.read_items.Given as goal

abbrev pub invariant-loop-items : goal.invariant-loop-items
invariant-loop-items g l = Running g.R.Items.next_at (λ item. item) l.initial.cursor l.cursor [] l.items

abbrev pub decreases-loop-items : goal.decreases-loop-items
decreases-loop-items g l = length l.cursor
