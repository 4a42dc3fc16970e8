use Rattle.std.proofs.Common.{Contains}
use Rattle.std.specs.List.{AllWithin}
use Rattle.palm_model.specs.Log.{log_pairs}
use Rattle.tests_engine.proofs.log.are_removed.Given as goal

-- the pairs so far are removed
abbrev pub invariant-loop-pair : goal.invariant-loop-pair
invariant-loop-pair l = AllWithin (Contains (log_pairs l.log.log)) l.pairs 0 l.pair-index
