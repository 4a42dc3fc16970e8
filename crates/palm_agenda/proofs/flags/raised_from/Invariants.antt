use Rattle.std.proofs.Common.{◌≡◌, ◌-◌, ◌≤◌, false, length}
use Rattle.std.specs.List.{AllWithin}
use Rattle.palm_agenda.proofs.flags.raised_from.Given as goal

-- no flag so far is raised
abbrev pub invariant-loop-place : goal.invariant-loop-place
invariant-loop-place l = record {
  from : l.initial.from ≤ l.place;
  between : AllWithin (λ b. b ≡ false) l.flags l.initial.from l.place;
}

abbrev pub decreases-loop-place : goal.decreases-loop-place
decreases-loop-place l = length l.flags - l.place
