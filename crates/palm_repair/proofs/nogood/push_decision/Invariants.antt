use Rattle.std.proofs.Common.{◌≡◌, ◌++◌, take}
use Rattle.palm_base.specs.declared.terms.Cid.TheVariants.{Decide}
use Rattle.palm_repair.specs.Posting.{pairs_under}
use Rattle.palm_repair.proofs.nogood.push_decision.Given as goal

abbrev pub invariant-loop-pair : goal.invariant-loop-pair
invariant-loop-pair l = l.pairs.items ≡ l.fn.pairs.items ++ pairs_under (take l.pair-index l.decisions) (Decide l.var)
