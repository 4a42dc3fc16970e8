use Rattle.std.proofs.Common.{take, Contains}
use Rattle.palm_model.specs.Conflict.{InFlat}
use Rattle.palm_explain.specs.CidSets.{IsJoined, IsMember}
use Rattle.palm_engine.specs.Posted.{actives_of}
use Rattle.palm_engine.proofs.conflicts.add_flat_each.Given as goal

-- what stands for the ids so far
abbrev pub invariant-loop-cid : goal.invariant-loop-cid
invariant-loop-cid g l = IsJoined (IsMember l.initial.cids) (InFlat (actives_of g.F.Filter.meaning l.posted.items) (Contains (take l.cid-index l.from))) (IsMember l.cids)
