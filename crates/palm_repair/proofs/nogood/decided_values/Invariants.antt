use Rattle.std.proofs.Common.{◌≡◌, length, take}
use Rattle.palm_repair.specs.Learned.{ShowsDecisions}
use Rattle.palm_repair.proofs.nogood.decided_values.Given as goal

abbrev pub invariant-loop-pair : goal.invariant-loop-pair
invariant-loop-pair l = (length l.values.items ≡ l.variables) × ShowsDecisions (take l.pair-index l.decisions) l.values.items
