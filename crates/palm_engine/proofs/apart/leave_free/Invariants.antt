use Rattle.std.proofs.Common.{take}
use Rattle.palm_domain.specs.Rows.{present_of}
use Rattle.palm_engine.proofs.Hits.{LeavesWithin}
use Rattle.palm_engine.proofs.apart.leave_free.Given as goal

-- the variables so far leave the values free
abbrev pub invariant-loop-other : goal.invariant-loop-other
invariant-loop-other l = LeavesWithin (present_of l.store) (take l.other-index l.vars) l.var l.fn.by l.low l.high
