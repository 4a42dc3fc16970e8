use Rattle.palm_repair.proofs.Choosing.{IsHeaviestYet}
use Rattle.palm_repair.proofs.conflict.heaviest.Given as goal

abbrev pub invariant-loop-place : goal.invariant-loop-place
invariant-loop-place l = IsHeaviestYet l.weights l.decisions l.cids l.place l.best l.greatest
