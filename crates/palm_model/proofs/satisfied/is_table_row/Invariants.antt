use Rattle.std.proofs.Common.{◌≢◌, ◌<◌, ℕ, map, get_or, []}
use Rattle.palm_model.specs.Trial.{listed}
use Rattle.palm_model.proofs.satisfied.is_table_row.Given as goal

-- none of the rows so far is the one
abbrev pub invariant-loop-row : goal.invariant-loop-row
invariant-loop-row l = (k : ℕ) → k < l.row-index → get_or l.row-items k [] ≢ map (listed l.values) l.vars
