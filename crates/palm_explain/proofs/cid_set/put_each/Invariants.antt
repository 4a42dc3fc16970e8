use Rattle.std.proofs.Common.{take}
use Rattle.palm_explain.specs.Merging.{IsMerged}
use Rattle.palm_explain.proofs.cid_set.put_each.Given as goal

-- the ids so far are there
abbrev pub invariant-loop-cid : goal.invariant-loop-cid
invariant-loop-cid l = IsMerged l.fn.cids.items (take l.cid-index l.more) l.cids.items
