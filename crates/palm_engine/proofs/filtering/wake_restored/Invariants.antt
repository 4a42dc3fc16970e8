use Rattle.std.proofs.Common.{◌≡◌, ℕ, ◌⊎◌, ◌↔◌, map, take, Contains}
use Rattle.palm_base.specs.declared.terms.Cid.{Cid}
use Rattle.palm_agenda.specs.Agenda.{IsFormed, IsOver}
use Rattle.palm_explain.specs.Explanations.{restored_vars}
use Rattle.palm_engine.specs.Changed.{widened_by}
use Rattle.palm_engine.proofs.filtering.wake_restored.Given as goal

abbrev pub invariant-loop-entry : goal.invariant-loop-entry
invariant-loop-entry l = record {
  formed : IsFormed l.agenda;
  connected : l.agenda.connected ≡ map (widened_by (take l.entry-index l.entries)) l.initial.agenda.connected;
  pending : (c : Cid) → Contains l.agenda.pending c
      ↔ (Contains l.initial.agenda.pending c ⊎ ((x : ℕ) × Contains (restored_vars (take l.entry-index l.entries)) x × IsOver l.initial.agenda.connected x c));
}
