use Rattle.palm_explain.proofs.PlaceSets.{IsReached, last_start}
use Rattle.palm_explain.proofs.places.reach.Given as goal

abbrev pub invariant-loop-next : goal.invariant-loop-next
invariant-loop-next l = IsReached l.fn.words.items l.words.items l.start

abbrev pub decreases-loop-next : goal.decreases-loop-next
decreases-loop-next l = last_start l.words.items
