use Rattle.std.proofs.Common.{◌≡◌, ◌+◌, ◌≤◌, length}
use Rattle.proof_check.specs.Marks.{IsPassed}
use Rattle.proof_check.proofs.marks.usage.Given as goal

abbrev pub invariant-loop-place : goal.invariant-loop-place
invariant-loop-place l = record {
  within : l.place ≤ length l.lemmas;
  constraints : length l.marks.constraints.items ≡ l.most + 1;
  lemmas : length l.marks.lemmas.items ≡ length l.lemmas + 1;
  passed : IsPassed l.lemmas l.lemma l.marks l.place;
}

abbrev pub decreases-loop-place : goal.decreases-loop-place
decreases-loop-place l = l.place
