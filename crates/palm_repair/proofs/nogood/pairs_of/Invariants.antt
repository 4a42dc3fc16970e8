use Rattle.std.proofs.Common.{◌≡◌, flat_map, take}
use Rattle.palm_repair.specs.Posting.{pairs_under}
use Rattle.palm_repair.proofs.nogood.pairs_of.Given as goal

abbrev pub invariant-loop-cid : goal.invariant-loop-cid
invariant-loop-cid l = l.pairs.items ≡ flat_map (pairs_under l.decisions) (take l.cid-index l.cids)
