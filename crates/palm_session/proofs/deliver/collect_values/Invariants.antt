use Rattle.std.proofs.Common.{◌≡◌, take, filter}
use Rattle.palm_domain.specs.Rows.{present_of}
use Rattle.palm_model.specs.Domains.{values_of}
use Rattle.palm_model.specs.Removed.{is_listed}
use Rattle.palm_session.proofs.deliver.collect_values.Given as goal

-- the present ones of the declared values so far
abbrev pub invariant-loop-value : goal.invariant-loop-value
invariant-loop-value l = l.values.items ≡ filter (is_listed (values_of (present_of l.store) l.var)) (take l.value-index l.value-items)
