use Rattle.std.proofs.Common.{◌≡◌, ◌<◌, ℕ, ℤ, map, get_or}
use Rattle.palm_model.specs.Trial.{listed}
use Rattle.palm_model.proofs.satisfied.is_row.Given as goal

-- the places so far agree
abbrev pub invariant-loop-place : goal.invariant-loop-place
invariant-loop-place l = (k : ℕ) (d : ℤ) → k < l.place → get_or l.row k d ≡ get_or (map (listed l.values) l.vars) k d
