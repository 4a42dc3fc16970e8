use Rattle.std.proofs.Common.{take, Contains}
use Rattle.palm_explain.specs.CidSets.{IsJoined, IsMember}
use Rattle.palm_explain.proofs.cid_set.CidSet.add_each.Given as goal

-- the ids so far are there
abbrev pub invariant-loop-cid : goal.invariant-loop-cid
invariant-loop-cid l = IsJoined (IsMember l.fn.self) (Contains (take l.cid-index l.cids)) (IsMember l.self)
