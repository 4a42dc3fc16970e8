use Rattle.std.proofs.Common.{◌≡◌, ℕ, ◌≤◌, length, Contains, Some, slice_get}
use Rattle.palm_base.specs.declared.terms.Cid.TheVariants.{Decide}
use Rattle.palm_base.specs.declared.terms.Pair.{Pair}
use Rattle.palm_search.proofs.conflict.latest.Given as goal

abbrev pub invariant-loop-place : goal.invariant-loop-place
invariant-loop-place l = (l.place ≤ length l.decisions) × ((k : ℕ) (p : Pair) → l.place ≤ k → slice_get l.decisions k ≡ Some p → Contains l.cids (Decide p.var) → ⊥)

abbrev pub decreases-loop-place : goal.decreases-loop-place
decreases-loop-place l = l.place
