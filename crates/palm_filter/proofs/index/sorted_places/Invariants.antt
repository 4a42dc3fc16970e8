use Rattle.std.proofs.Common.{ℕ, ◌<◌, Contains}
use Rattle.palm_model.specs.Constraint.{Distinct}
use Rattle.palm_filter.proofs.index.sorted_places.Given as goal

-- each place so far stands once in the list, and no other one does
abbrev pub invariant-loop-place : goal.invariant-loop-place
invariant-loop-place l = record { within : (k : ℕ) → Contains l.places.items k → k < l.place; every : (k : ℕ) → k < l.place → Contains l.places.items k; once : Distinct l.places.items }
