use Rattle.std.proofs.Common.{◌≡◌, length}
use Rattle.palm_read.specs.Interval.{is_interval}
use Rattle.palm_read.proofs.interval.is_interval.Given as goal

-- what is left is an interval where all is one
abbrev pub invariant-loop-rest : goal.invariant-loop-rest
invariant-loop-rest l = is_interval l.rest ≡ is_interval l.values

abbrev pub decreases-loop-rest : goal.decreases-loop-rest
decreases-loop-rest l = length l.rest
