use Rattle.std.proofs.Common.{◌≡◌, ℕ, true, false, take, get_or, Contains}
use Rattle.palm_agenda.proofs.heedful.note_heeds.Given as goal

-- the variables so far are noted
abbrev pub invariant-loop-var : goal.invariant-loop-var
invariant-loop-var l = record {
  stay : (x : ℕ) → get_or l.heedful.items x false ≡ false → get_or l.initial.heedful.items x false ≡ false;
  noted : (x : ℕ) → Contains (take l.var-index l.var-items) x → get_or l.heedful.items x false ≡ true;
}
