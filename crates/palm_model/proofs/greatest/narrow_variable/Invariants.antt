use Rattle.std.proofs.Common.{◌-◌, length}
use Rattle.palm_model.specs.Domains.{values_of}
use Rattle.palm_model.specs.Closure.{IsClosedFor}
use Rattle.palm_model.specs.Trial.{FirstSupported, Narrowed}
use Rattle.palm_model.proofs.greatest.narrow_variable.Given as goal

-- the values before the index have support, as long as none was taken out
abbrev pub invariant-loop-index : goal.invariant-loop-index
invariant-loop-index l = Narrowed (IsClosedFor l.part) (FirstSupported l.part l.var l.index) l.initial.domains l.domains l.lost

abbrev pub decreases-loop-index : goal.decreases-loop-index
decreases-loop-index l = length (values_of l.domains l.var) - l.index
