use Rattle.std.proofs.Common.{take}
use Rattle.palm_domain.specs.Rows.{present_of}
use Rattle.palm_engine.proofs.Hits.{LeavesUpTo}
use Rattle.palm_engine.proofs.apart.next_hit.Given as goal

-- the variables so far leave free what is before the next value
abbrev pub invariant-loop-other : goal.invariant-loop-other
invariant-loop-other l = LeavesUpTo (present_of l.store) (take l.other-index l.vars) l.var l.fn.by l.from l.next
