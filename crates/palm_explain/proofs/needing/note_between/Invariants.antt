use Rattle.std.proofs.Common.{length}
use Rattle.palm_explain.specs.Rows.{rest_in}
use Rattle.palm_explain.proofs.NeededPlaces.{IsPartNoted}
use Rattle.palm_explain.proofs.needing.note_between.Given as goal

-- the numbers of the values before the place are noted
abbrev pub invariant-loop-next : goal.invariant-loop-next
invariant-loop-next l = IsPartNoted l.rows l.row l.fn.number (record { var = l.fn.var; low = l.fn.low; high = l.fn.high }) l.place l.fn.noted l.noted

abbrev pub decreases-loop-next : goal.decreases-loop-next
decreases-loop-next l = length (rest_in l.row l.fn.number l.fn.high l.place)
