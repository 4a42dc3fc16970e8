use Rattle.std.proofs.Common.{◌≡◌, drop}
use Rattle.filter_differ.specs.Differ.{first_lone}
use Rattle.palm_domain.specs.Rows.{present_of}
use Rattle.filter_differ.proofs.others.first_lone.Given as goal

-- the first one is among the variables left
abbrev pub invariant-loop-var : goal.invariant-loop-var
invariant-loop-var l =
    first_lone (present_of l.store) l.vars l.pair.var l.pair.value ≡ first_lone (present_of l.store) (drop l.var-index l.vars) l.pair.var l.pair.value
