use Rattle.std.specs.List.{AllWithin}
use Rattle.filter_differ.specs.Differ.{LeavesRoom}
use Rattle.palm_domain.specs.Rows.{present_of}
use Rattle.filter_differ.proofs.others.leave_room.Given as goal

-- the variables so far leave room
abbrev pub invariant-loop-other : goal.invariant-loop-other
invariant-loop-other l = AllWithin (LeavesRoom (present_of l.store) l.pair.var l.pair.value) l.vars 0 l.other-index
