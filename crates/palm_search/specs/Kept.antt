-- What a search keeps from turn to turn.
use Rattle.std.specs.Prelude.{◌≡◌, ℕ, Bool, true, false, Contains}
use Rattle.palm_base.specs.declared.terms.Pair.{Pair}
use Rattle.palm_base.specs.declared.terms.Cid.{Cid}
use Rattle.palm_base.specs.declared.terms.Cid.TheVariants.{Decide, Not}
use Rattle.palm_model.specs.Domains.{Has}
use Rattle.palm_model.specs.Constraint.{Distinct}
use Rattle.palm_model.specs.Log.{Active, IsActive}
use Rattle.palm_model.specs.State.{EngineState, IsValid, is_user, decision_of}
use Rattle.palm_model.specs.Event.{vars_of}
use Rattle.palm_model.specs.Conflict.{AreJustified}
use Rattle.palm_events.specs.Along.{IsStill}
use Rattle.palm_search.specs.Turns.{SearchState}

-- only constraints of users are active
abbrev pub HasOnlyUsers : EngineState → Type 0
HasOnlyUsers s = (a : Active) → Contains s.active a → is_user a.cid ≡ true

-- no constraint is active that is a search's own
abbrev pub HasNone : (Cid → Bool) → EngineState → Type 0
HasNone own s = (a : Active) → Contains s.active a → own a.cid ≡ false

-- the active decisions are those of the search, one a variable
pub record HasDecisions (s : SearchState) : Type 0 where
  pub active : (p : Pair) → Contains s.decisions p → Contains s.engine.active (decision_of p)
  pub taken : (a : Active) (x : ℕ) → Contains s.engine.active a → a.cid ≡ Decide x → (p : Pair) × Contains s.decisions p × (a ≡ decision_of p)
  pub distinct : Distinct (vars_of s.decisions)

-- the decided pairs and those of the active negations are declared
pub record HasDeclared (s : SearchState) : Type 0 where
  pub decided : (p : Pair) → Contains s.decisions p → Has s.engine.initial p.var p.value
  pub negated : (a : Active) (p : Pair) → Contains s.engine.active a → a.cid ≡ Not p → Has s.engine.initial p.var p.value

-- no decided pair has an active negation
abbrev pub HasNoneNegated : SearchState → Type 0
HasNoneNegated s = (p : Pair) → Contains s.decisions p → IsActive s.engine.active (Not p) → ⊥

-- the engine is valid, all its negations are justified, its decisions are those of the search, and their pairs and those
-- of the negations are declared
pub record IsSearching (s : SearchState) : Type 0 where
  pub valid : IsValid s.engine
  pub justified : AreJustified s.engine
  pub decisions : HasDecisions s
  pub declared : HasDeclared s

-- what is left after a search: a valid state with the same constraints and declared values, in which nothing is pending or
-- a domain is empty
pub record Rests (s t : EngineState) : Type 0 where
  pub valid : IsValid t
  pub active : t.active ≡ s.active
  pub initial : t.initial ≡ s.initial
  pub still : IsStill t
