use Rattle.std.proofs.Common.{◌≡◌, [], take}
use Rattle.palm_search.specs.Turns.{decided_vars}
use Rattle.palm_search.proofs.conflict.has_decision.Given as goal

abbrev pub invariant-loop-cid : goal.invariant-loop-cid
invariant-loop-cid l = [] ≡ decided_vars (take l.cid-index l.cids)
