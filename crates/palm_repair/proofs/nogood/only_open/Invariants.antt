use Rattle.std.proofs.Common.{◌≡◌, filter, not, take}
use Rattle.palm_repair.specs.Learned.{is_shown, listed_pair}
use Rattle.palm_repair.proofs.nogood.only_open.Given as goal

abbrev pub invariant-loop-pair : goal.invariant-loop-pair
invariant-loop-pair l = listed_pair l.left ≡ filter (λ p. not (is_shown l.values p)) (take l.pair-index l.nogood.pairs)
