use Rattle.std.proofs.Common.{take}
use Rattle.palm_cert.specs.Needs.{removals_at}
use Rattle.palm_cert.proofs.cited.Numbers.{Collects}
use Rattle.palm_cert.proofs.needs.collect_numbers.Given as goal

abbrev pub invariant-loop-pair : goal.invariant-loop-pair
invariant-loop-pair l = Collects (removals_at l.log.log l.steps) l.numbers.items (take l.pair-index l.pair-items)
