-- What an answer holds of the constraints that were active before the minimization.
use Rattle.std.specs.Prelude.{◌≡◌, ℕ, ℤ, ◌<◌, ◌<ℤ◌, List, Contains, Option, IfSome, length}
use Rattle.palm_base.specs.declared.terms.Cid.{Cid}
use Rattle.palm_model.specs.Domains.{Assignment}
use Rattle.palm_model.specs.Closure.{IsSolution}
use Rattle.palm_model.specs.Log.{IsActive, Named, cons_of}
use Rattle.palm_model.specs.State.{EngineState}
use Rattle.palm_model.specs.Trial.{listed, value_count}
use Rattle.palm_search.specs.Measure.{most_turns}
use Rattle.palm_search.specs.Search.{AreUnsolved}
use Rattle.palm_best.specs.declared.best.Best.{Best}
use Rattle.palm_best.specs.declared.best.Best.TheVariants.{Least, NoSolution, Spent}

-- the values satisfy all active constraints
abbrev pub AreSolution : EngineState → List ℤ → Type 0
AreSolution s values = IsSolution s.initial (Contains (cons_of s.active)) (listed values)

-- no assignment that satisfies all of the users gives the target a lesser value than these values do
abbrev pub IsLeast : EngineState → ℕ → List ℤ → List Cid → Type 0
IsLeast s target values users = (a : Assignment) → IsSolution s.initial (Named s.active (Contains users)) a → a target <ℤ listed values target → ⊥

-- the values satisfy all active constraints, the users are active, and none that satisfy these give the target a lesser value
pub record AreBest (s : EngineState) (target : ℕ) (values : List ℤ) (users : List Cid) : Type 0 where
  pub solution : AreSolution s values
  pub active : (c : Cid) → Contains users c → IsActive s.active c
  pub least : IsLeast s target values users

-- the turns are as many as the budget allows, which is below the bound; the values that were found satisfy all constraints
pub record IsSpent (s : EngineState) (budget turns : ℕ) (best : Option (List ℤ)) : Type 0 where
  pub whole : turns ≡ budget
  pub few : turns < most_turns (length s.initial) (value_count s.initial)
  pub solution : IfSome best (AreSolution s)

abbrev pub IsTrueOf : EngineState → ℕ → ℕ → Best → Type 0
IsTrueOf s target budget (Least values users) = AreBest s target values users
IsTrueOf s target budget (NoSolution users) = AreUnsolved s users
IsTrueOf s target budget (Spent turns best) = IsSpent s budget turns best
