use Rattle.palm_listed.proofs.Taking.{Putting}
use Rattle.palm_listed.proofs.without.put_back_all.Given as goal

abbrev pub invariant-loop-pair : goal.invariant-loop-pair
invariant-loop-pair l = Putting l.fn.store l.store l.pairs l.pair-index
