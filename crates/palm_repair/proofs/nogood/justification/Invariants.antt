use Rattle.std.proofs.Common.{◌≡◌, filter, map, not, take}
use Rattle.palm_base.specs.declared.terms.Cid.TheVariants.{Decide}
use Rattle.palm_base.specs.Order.{same_pair}
use Rattle.palm_repair.proofs.nogood.justification.Given as goal

abbrev pub invariant-loop-other : goal.invariant-loop-other
invariant-loop-other l = l.cids ≡ map (λ q. Decide q.var) (filter (λ q. not (same_pair q l.pair)) (take l.other-index l.nogood.pairs))
