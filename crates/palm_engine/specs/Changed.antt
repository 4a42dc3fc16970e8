-- What a removal and a withdrawal do to what an engine keeps.
use Rattle.std.specs.Prelude.{◌≡◌, ℕ, ◌<◌, ◌↔◌, ◌⊎◌, List, [], ◌∷◌, ◌++◌, map, length, Contains, Option, Some, None, slice_set, ℤ, ◌-◌, ◌^◌, ◌≤◌}
use Rattle.palm_base.specs.declared.terms.Pair.{Pair}
use Rattle.palm_base.specs.declared.terms.Cid.{Cid}
use Rattle.palm_base.specs.Tells.{Tells}
use Rattle.palm_domain.specs.Rows.{Ascends, LosesPair, Row, initial_of, present_of, present_values, values_without}
use Rattle.palm_domain.specs.declared.limits.TheConstants.{MOST_VALUES}
use Rattle.palm_model.specs.Domains.{Domains, values_of}
use Rattle.palm_model.specs.Log.{Loses, Removal, log_pairs}
use Rattle.palm_model.specs.State.{without_cid}
use Rattle.palm_model.specs.Event.{lost_pairs, vars_of}
use Rattle.palm_explain.specs.declared.restored.Restored.{Restored}
use Rattle.palm_explain.specs.Explanations.{Explanations, IsSpanned, LacksExactly, restored_vars}
use Rattle.palm_filter.specs.Heeds.{HasAbove, HasBelow}
use Rattle.palm_filter.specs.Shapes.{HasTwo}
use Rattle.palm_agenda.specs.declared.loss.Loss.{Loss}
use Rattle.palm_agenda.specs.Agenda.{Connected, IsFormed, IsOver, mark_others, mark_own, without_connected}
use Rattle.palm_engine.specs.declared.filtering.Filtering.{Filtering}

-- there may be one more variable, with these values
pub record HasRoomFor (rows : List Row) (values : List ℤ) : Type 0 where
  pub ascend : Ascends values
  pub filled : 0 < length values
  pub small : length values ≤ MOST_VALUES
  pub few : length rows < 2 ^ 32 - 1

-- the rows with that of one more variable, of which each of the values is declared and present
abbrev pub with_variable : List Row → List ℤ → List Row
with_variable rows values = rows ++ record { initial = values; present = values } ∷ []

-- the empty variable after a value of x was taken out: x where it has no value left
pub record NotesLoss (before after : Option ℕ) (d : Domains) (x : ℕ) : Type 0 where
  pub emptied : values_of d x ≡ [] → after ≡ Some x
  pub filled : 0 < length (values_of d x) → after ≡ before

-- the empty variable after values were put back: none where it has a value again
abbrev pub NotesGain : Option ℕ → Option ℕ → Domains → Type 0
NotesGain None after d = after ≡ None
NotesGain (Some x) after d = (values_of d x ≡ [] → after ≡ Some x) × (0 < length (values_of d x) → after ≡ None)

-- the loss tells of the pair's variable what is left of it
pub record TellsLoss (d : Domains) (p : Pair) (loss : Loss) : Type 0 where
  pub value : loss.value ≡ p.value
  pub below : Tells loss.below (HasBelow d p.var p.value)
  pub above : Tells loss.above (HasAbove d p.var p.value)
  pub several : Tells loss.several (HasTwo d p.var)

-- the pair is taken out of the domains, and the constraints over its variable wait; nothing else changes
pub record HasLost (f : Filtering) (p : Pair) (g : Filtering) : Type 0 where
  pub initial : initial_of g.store ≡ initial_of f.store
  pub present : present_of g.store ≡ slice_set (present_of f.store) p.var (values_without p.value (present_values f.store p.var))
  pub loses : LosesPair f.store g.store p.var p.value
  pub formed : IsFormed g.agenda
  pub loss : Loss
  pub told : TellsLoss (present_of g.store) p loss
  pub connected : g.agenda.connected ≡ map (mark_others p.var loss) f.agenda.connected
  pub pending : (c : Cid) → Contains g.agenda.pending c ↔ (Contains f.agenda.pending c ⊎ IsOver f.agenda.connected p.var c)
  pub empty : NotesLoss f.empty g.empty (present_of g.store) p.var
  pub log : g.log ≡ f.log
  pub checks : g.checks ≡ f.checks

-- the values of x are taken out one after another
abbrev pub HasLostEach : Filtering → ℕ → List ℤ → Filtering → Type 0
HasLostEach f x [] g = g ≡ f
HasLostEach f x (v ∷ values) g = (m : Filtering) × HasLost f (record { var = x; value = v }) m × HasLostEach m x values g

-- with these removals behind those of the log
abbrev pub with_run : Explanations → List Removal → Explanations
with_run l run = record l { log = l.log ++ run }

-- the pair is taken out under the id and for the reasons, and the constraints over its variable wait
pub record TakesOut (f : Filtering) (p : Pair) (by : Cid) (reasons : List Pair) (g : Filtering) : Type 0 where
  pub initial : initial_of g.store ≡ initial_of f.store
  pub loses : LosesPair f.store g.store p.var p.value
  pub removed : LacksExactly g.store (log_pairs g.log.log)
  pub log : g.log.log ≡ f.log.log ++ record { pair = p; by = by; reasons = reasons } ∷ []
  pub formed : IsFormed g.agenda
  pub loss : Loss
  pub told : TellsLoss (present_of g.store) p loss
  pub connected : g.agenda.connected ≡ map (mark_others p.var loss) f.agenda.connected
  pub pending : (c : Cid) → Contains g.agenda.pending c ↔ (Contains f.agenda.pending c ⊎ IsOver f.agenda.connected p.var c)
  pub empty : NotesLoss f.empty g.empty (present_of g.store) p.var
  pub checks : g.checks ≡ f.checks

-- the marks of the constraint are widened by each of these, one after another
abbrev pub widened_by : List Restored → Connected → Connected
widened_by [] d = d
widened_by (r ∷ entries) d = widened_by entries (mark_own r.var r.low r.high d)

-- the constraint under the id is gone with all that rests on it, and the constraints over restored variables wait
pub record PutsBack (f : Filtering) (cid : Cid) (g : Filtering) : Type 0 where
  pub initial : initial_of g.store ≡ initial_of f.store
  pub loses : Loses f.log.log (cid ∷ []) f.log.log g.log.log
  pub removed : LacksExactly g.store (log_pairs g.log.log)
  pub restored : (x : ℕ) → Contains (restored_vars g.log.restored) x ↔ Contains (vars_of (lost_pairs f.log.log g.log.log)) x
  pub within : (p : Pair) → Contains (lost_pairs f.log.log g.log.log) p → IsSpanned g.log.restored p
  pub formed : IsFormed g.agenda
  pub connected : g.agenda.connected ≡ map (widened_by g.log.restored) (without_connected cid f.agenda.connected)
  pub pending : (c : Cid) → Contains g.agenda.pending c
      ↔ (Contains (without_cid cid f.agenda.pending) c ⊎ ((x : ℕ) × Contains (restored_vars g.log.restored) x × IsOver (without_connected cid f.agenda.connected) x c))
  pub empty : NotesGain f.empty g.empty (present_of g.store)
  pub checks : g.checks ≡ f.checks
