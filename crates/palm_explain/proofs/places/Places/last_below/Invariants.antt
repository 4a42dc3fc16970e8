use Rattle.std.proofs.Common.{length, ◌-◌}
use Rattle.palm_explain.specs.Places.{IsSearched}
use Rattle.palm_explain.proofs.places.Places.last_below.Given as goal

abbrev pub invariant-loop-index : goal.invariant-loop-index
invariant-loop-index l = IsSearched l.words l.end l.index

abbrev pub decreases-loop-index : goal.decreases-loop-index
decreases-loop-index l = length l.words - l.index
