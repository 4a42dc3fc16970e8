-- What a machine is in, and what its calls leave of it.
use Rattle.std.specs.Prelude.{◌≡◌, [], Result, is_some}
use Rattle.palm_model.specs.State.{IsValid}
use Rattle.palm_engine.specs.Engine.{KeepsCounts}
use Rattle.palm_search.specs.declared.machine.Machine.{Machine}
use Rattle.palm_search.specs.Calls.{search_state}
use Rattle.palm_search.specs.Kept.{HasDecisions, HasOnlyUsers}
use Rattle.palm_search.specs.Leaves.{Counts, Leaves, Lent}
use Rattle.palm_search.specs.Turns.{SearchState}

-- the state of its engine with the decisions of its search
abbrev pub state_of : {F G O L : Type 0} → Machine F G O L → SearchState
state_of m = search_state m.engine.now.state m.search.now

-- it holds what it was lent
pub record HoldsSame {F G O L : Type 0} (m n : Machine F G O L) : Type 0 where
  pub engine : n.engine.ghost_name ≡ m.engine.ghost_name
  pub search : n.search.ghost_name ≡ m.search.ghost_name
  pub guide : n.guide.ghost_name ≡ m.guide.ghost_name
  pub order : n.order.ghost_name ≡ m.order.ghost_name
  pub steps : n.steps.ghost_name ≡ m.steps.ghost_name

-- nothing was settled: support was asked for no oftener, the order is as it was, and a guide is there where one was
pub record KeepsOrder {F G O L : Type 0} (m n : Machine F G O L) : Type 0 where
  pub holds : HoldsSame m n
  pub order : n.order.now ≡ m.order.now
  pub steps : n.steps.now ≡ m.steps.now
  pub counts : KeepsCounts m.engine.now n.engine.now
  pub stays : is_some n.guide.now ≡ is_some m.guide.now

-- and the active decisions are those of the search
pub record KeepsDecisions {F G O L : Type 0} (m n : Machine F G O L) : Type 0 where
  pub quiet : KeepsOrder m n
  pub decisions : HasDecisions (state_of n)

-- the steps count on, and a guide and an order are there just where they were before
pub record RunsOn {F G O L : Type 0} (m n : Machine F G O L) : Type 0 where
  pub holds : HoldsSame m n
  pub counts : Counts m.engine.now n.engine.now m.steps.now n.steps.now
  pub lent : Lent m.guide.now n.guide.now m.order.now n.order.now

-- and so they are behind a whole run, which began in a valid state; the active decisions are those of the search
pub record HasRunOn {F G O L : Type 0} (m n : Machine F G O L) : Type 0 where
  pub before : IsValid m.engine.now.state
  pub on : RunsOn m n
  pub decisions : HasDecisions (state_of n)

-- no decision and no turn was taken, and only constraints of users are active
pub record Begins {F G O L : Type 0} (m : Machine F G O L) : Type 0 where
  pub fresh : m.search.now ≡ record { decisions = []; journal = [] }
  pub users : HasOnlyUsers m.engine.now.state

-- what a whole search over it leaves, whatever its answer
pub record GivesBack {F G O L T E : Type 0} (m n : Machine F G O L) (result : Result T E) : Type 0 where
  pub leaves : Leaves m.engine.now.state n.engine.now.state n.search.now result
  pub on : RunsOn m n
