use Rattle.std.proofs.Common.{◌≡◌, ℕ, take, Contains}
use Rattle.palm_agenda.specs.Cids.{HasSpace, cids_at}
use Rattle.palm_agenda.proofs.over.make_room.Given as goal

-- the variables so far have room
abbrev pub invariant-loop-var : goal.invariant-loop-var
invariant-loop-var l = record {
  cids : (x : ℕ) → cids_at l.over.items x ≡ cids_at l.initial.over.items x;
  space : (x : ℕ) → Contains (take l.var-index l.scope) x → HasSpace l.over.items x;
}
