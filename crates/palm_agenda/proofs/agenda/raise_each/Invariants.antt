use Rattle.std.proofs.Common.{take}
use Rattle.palm_agenda.specs.Kept.{Raises}
use Rattle.palm_agenda.proofs.agenda.raise_each.Given as goal

-- the constraints under the ids so far are pending
abbrev pub invariant-loop-cid : goal.invariant-loop-cid
invariant-loop-cid l = Raises l.connections (take l.cid-index l.cids) l.initial.pending.flags l.pending.flags
