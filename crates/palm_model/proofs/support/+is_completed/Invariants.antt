use Rattle.std.proofs.Common.{◌<◌, ℕ, ℤ, length, get_or}
use Rattle.palm_model.specs.Trial.{listed, ChangesOnly, IsCompleted}
use Rattle.palm_model.proofs.cited.Trials.{put}
use Rattle.palm_model.proofs.support.+is_completed.Given as goal

abbrev pub decreases-is_completed : goal.decreases-is_completed
decreases-is_completed l = length l.open_vars.now

-- the values so far were tried without success
abbrev pub invariant-loop-value : goal.invariant-loop-value
invariant-loop-value l = record {
  changes : ChangesOnly l.open_vars l.fixed l.initial.values l.values;
  tried : (k : ℕ) (d : ℤ) → k < l.value-index → IsCompleted l.domains l.part l.fixed l.rest (put (listed l.initial.values) l.first (get_or l.value-items k d)) → ⊥;
}
