use Rattle.std.proofs.Common.{take}
use Rattle.palm_model.specs.Closure.{IsClosedFor}
use Rattle.palm_model.specs.Trial.{EachSupported, Narrowed}
use Rattle.palm_model.proofs.greatest.narrow.Given as goal

-- the variables so far, as long as no value was taken out
abbrev pub invariant-loop-var : goal.invariant-loop-var
invariant-loop-var l = Narrowed (IsClosedFor l.part) (EachSupported l.part (take l.var-index l.var-items)) l.initial.domains l.domains l.lost
