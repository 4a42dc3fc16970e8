use Rattle.palm_model.specs.Trial.{IsClosedForAll, Narrows, value_count}
use Rattle.palm_model.proofs.greatest.close.Given as goal

-- what was taken out so far is in no closed domains
abbrev pub invariant-loop : goal.invariant-loop
invariant-loop l = Narrows (IsClosedForAll l.parts) l.initial.domains l.domains

abbrev pub decreases-loop : goal.decreases-loop
decreases-loop l = value_count l.domains
