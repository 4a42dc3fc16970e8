use Rattle.std.proofs.Common.{◌≤◌, length}
use Rattle.palm_explain.specs.CidSets.{HasAppended}
use Rattle.palm_explain.proofs.CidSets.{IsIdFrom}
use Rattle.palm_explain.proofs.cid_set.push_ids.Given as goal

-- the ids by the numbers of the words from the index on
abbrev pub invariant-loop-index : goal.invariant-loop-index
invariant-loop-index l = (l.index ≤ length l.words) × HasAppended l.fn.cids.items (IsIdFrom l.ids l.words l.index) l.cids.items

abbrev pub decreases-loop-index : goal.decreases-loop-index
decreases-loop-index l = l.index
