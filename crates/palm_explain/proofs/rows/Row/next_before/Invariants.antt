use Rattle.std.proofs.Common.{◌≡◌, ◌-◌, length}
use Rattle.palm_explain.specs.Rows.{rest_in}
use Rattle.palm_explain.proofs.rows.Row.next_before.Given as goal

-- nothing was passed that counts
abbrev pub invariant-loop-next : goal.invariant-loop-next
invariant-loop-next l = rest_in l.self l.number l.fn.high l.place ≡ rest_in l.self l.number l.fn.high l.next

abbrev pub decreases-loop-next : goal.decreases-loop-next
decreases-loop-next l = length l.self.values.items - l.next
