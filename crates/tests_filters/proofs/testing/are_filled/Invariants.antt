use Rattle.std.proofs.Common.{◌<◌, length}
use Rattle.std.specs.List.{AllWithin}
use Rattle.palm_domain.specs.Rows.{present_of}
use Rattle.palm_model.specs.Domains.{values_of}
use Rattle.tests_filters.proofs.testing.are_filled.Given as goal

-- the variables so far have values
abbrev pub invariant-loop-var : goal.invariant-loop-var
invariant-loop-var l = AllWithin (λ x. 0 < length (values_of (present_of l.store) x)) l.vars 0 l.var-index
