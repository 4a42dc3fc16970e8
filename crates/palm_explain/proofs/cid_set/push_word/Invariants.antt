use Rattle.std.proofs.Common.{◌-◌, ◌^◌}
use Rattle.palm_explain.specs.CidSets.{HasAppended}
use Rattle.palm_explain.proofs.CidSets.{IsIdBelow}
use Rattle.palm_explain.proofs.cid_set.push_word.Given as goal

-- the ids by the numbers below the next place
abbrev pub invariant-loop-number : goal.invariant-loop-number
invariant-loop-number l = HasAppended l.fn.cids.items (IsIdBelow l.ids l.word l.from) l.cids.items

abbrev pub decreases-loop-number : goal.decreases-loop-number
decreases-loop-number l = 2 ^ 32 - l.from
