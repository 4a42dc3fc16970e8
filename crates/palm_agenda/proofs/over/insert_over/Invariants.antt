use Rattle.std.proofs.Common.{◌≡◌, ℕ, ◌<◌, ◌⊎◌, ◌↔◌, length, take, Contains}
use Rattle.palm_base.specs.declared.terms.Cid.{Cid}
use Rattle.palm_agenda.specs.Cids.{HasRoomFor, cids_at, row_at}
use Rattle.palm_agenda.proofs.over.insert_over.Given as goal

-- the lists of the variables so far have the id, and there is room for it in the others
abbrev pub invariant-loop-var : goal.invariant-loop-var
invariant-loop-var l = record {
  cids : (x : ℕ) (c : Cid) → Contains (cids_at l.over.items x) c ↔ (Contains (cids_at l.initial.over.items x) c ⊎ (Contains (take l.var-index l.scope) x × (c ≡ l.cid)));
  within : (x : ℕ) → Contains l.scope x → x < length l.over.items;
  room : (x : ℕ) → Contains l.scope x → HasRoomFor l.cid (row_at l.over.items x);
}
