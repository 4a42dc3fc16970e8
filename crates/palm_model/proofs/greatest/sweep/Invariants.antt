use Rattle.std.proofs.Common.{take}
use Rattle.palm_model.specs.Trial.{IsClosedForAll, Narrowed}
use Rattle.palm_model.proofs.greatest.sweep.Given as goal

-- the parts so far, as long as no value was taken out
abbrev pub invariant-loop-part : goal.invariant-loop-part
invariant-loop-part l = Narrowed (IsClosedForAll l.parts) (IsClosedForAll (take l.part-index l.parts)) l.initial.domains l.domains l.lost
