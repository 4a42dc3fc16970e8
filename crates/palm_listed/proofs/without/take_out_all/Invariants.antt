use Rattle.palm_listed.proofs.Taking.{Taking}
use Rattle.palm_listed.proofs.without.take_out_all.Given as goal

abbrev pub invariant-loop-pair : goal.invariant-loop-pair
invariant-loop-pair l = Taking l.fn.store l.store l.pairs l.pair-index
