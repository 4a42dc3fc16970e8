-- Logs whose reasons stand in the scopes of their constraints.
use Rattle.std.specs.Prelude.{◌≡◌, List, Contains}
use Rattle.palm_base.specs.declared.terms.Pair.{Pair}
use Rattle.palm_model.specs.Constraint.{scope}
use Rattle.palm_model.specs.Log.{Active, Removal}
use Rattle.palm_model.specs.State.{EngineState}

-- each reason is a pair of another variable of the removal's constraint
pub record IsScoped (active : List Active) (r : Removal) : Type 0 where
  pub owner : Active
  pub posted : Contains active owner
  pub named : owner.cid ≡ r.by
  pub others : (p : Pair) → Contains r.reasons p → Contains (scope owner.con) p.var × (p.var ≡ r.pair.var → ⊥)

-- so is every removal of the log
abbrev pub HasScopedReasons : EngineState → Type 0
HasScopedReasons s = (r : Removal) → Contains s.log r → IsScoped s.active r
