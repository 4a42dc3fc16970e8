use Rattle.std.proofs.Common.{◌≡◌, ℕ, ◌+◌, ◌-◌, false, length, get_or}
use Rattle.palm_agenda.proofs.heedful.note.Given as goal

-- nothing is noted so far
abbrev pub invariant-loop-heedful : goal.invariant-loop-heedful
invariant-loop-heedful l = (x : ℕ) → get_or l.heedful.items x false ≡ get_or l.initial.heedful.items x false

abbrev pub decreases-loop-heedful : goal.decreases-loop-heedful
decreases-loop-heedful l = l.place + 1 - length l.heedful.items
