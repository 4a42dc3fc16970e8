use Rattle.std.proofs.Common.{◌≢◌}
use Rattle.std.specs.List.{AllWithin}
use Rattle.palm_domain.specs.Rows.{present_of}
use Rattle.palm_filter.specs.Shapes.{HasTwo}
use Rattle.palm_engine.proofs.apart.have_two.Given as goal

-- the variables so far have two values
abbrev pub invariant-loop-other : goal.invariant-loop-other
invariant-loop-other l = AllWithin (λ y. y ≢ l.var → HasTwo (present_of l.store) y) l.vars 0 l.other-index
