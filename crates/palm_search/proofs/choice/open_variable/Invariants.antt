use Rattle.std.proofs.Common.{ℕ, ◌<◌}
use Rattle.palm_domain.specs.Rows.{present_of}
use Rattle.palm_search.specs.Turns.{IsOpen}
use Rattle.palm_search.proofs.choice.open_variable.Given as goal

abbrev pub invariant-loop-var : goal.invariant-loop-var
invariant-loop-var l = (y : ℕ) → y < l.var → IsOpen (present_of l.store) y → ⊥
