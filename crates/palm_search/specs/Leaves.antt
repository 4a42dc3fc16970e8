-- What a whole search leaves as it was, whatever its answer.
use Rattle.std.specs.Prelude.{◌≡◌, ℕ, ◌+◌, ◌-◌, ◌≤◌, min, Option, is_some, [], Result, OnOk}
use Rattle.palm_base.specs.declared.limits.TheConstants.{LAST_COUNT}
use Rattle.palm_model.specs.State.{EngineState, IsValid}
use Rattle.palm_events.specs.Along.{IsStill}
use Rattle.palm_engine.specs.Engine.{View}
use Rattle.palm_search.specs.Calls.{SearchView}

-- the constraints and the declared values, and from a state at rest the log; no decision is left
pub record Leaves {T E : Type 0} (s t : EngineState) (after : SearchView) (result : Result T E) : Type 0 where
  pub active : t.active ≡ s.active
  pub initial : t.initial ≡ s.initial
  pub log : IsStill s → t.log ≡ s.log
  pub still : OnOk result (IsStill t)
  pub decisions : after.decisions ≡ []
  pub valid : IsValid t

-- the steps count on, and the engine counts as many questions more
pub record Counts (before after : View) (was now : ℕ) : Type 0 where
  pub later : was ≤ now
  pub checks : after.checks ≡ min (before.checks + (now - was)) LAST_COUNT

-- a guide and an order are there after it just where they were before
pub record Lent {G O : Type 0} (guide_before guide_after : Option G) (order_before order_after : Option O) : Type 0 where
  pub guide : is_some guide_after ≡ is_some guide_before
  pub order : is_some order_after ≡ is_some order_before
