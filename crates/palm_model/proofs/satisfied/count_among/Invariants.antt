use Rattle.std.proofs.Common.{◌≡◌, ◌≤◌, take}
use Rattle.palm_model.specs.Count.{count_among}
use Rattle.palm_model.specs.Trial.{listed}
use Rattle.palm_model.proofs.satisfied.count_among.Given as goal

-- the count so far, no more than the variables so far
abbrev pub invariant-loop-var : goal.invariant-loop-var
invariant-loop-var l = record {
  count : l.count ≡ count_among (listed l.values) l.value (take l.var-index l.vars);
  few : l.count ≤ l.var-index;
}
