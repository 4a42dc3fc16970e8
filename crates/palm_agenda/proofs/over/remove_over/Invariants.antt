use Rattle.std.proofs.Common.{◌≡◌, ℕ, ◌↔◌, length, take, Contains}
use Rattle.palm_base.specs.declared.terms.Cid.{Cid}
use Rattle.palm_agenda.specs.Cids.{cids_at}
use Rattle.palm_agenda.proofs.over.remove_over.Given as goal

-- the lists of the variables so far do not have the id
abbrev pub invariant-loop-var : goal.invariant-loop-var
invariant-loop-var l = record {
  cids : (x : ℕ) (c : Cid) → Contains (cids_at l.over.items x) c ↔ (Contains (cids_at l.initial.over.items x) c × (Contains (take l.var-index l.scope) x → c ≡ l.cid → ⊥));
  many : length l.over.items ≡ length l.initial.over.items;
}
