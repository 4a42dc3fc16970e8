-- What an answer holds of the constraints that were active before the search.
use Rattle.std.specs.Prelude.{◌≡◌, ℕ, ◌<◌, Contains, length}
use Rattle.palm_model.specs.Closure.{IsSolution}
use Rattle.palm_model.specs.Log.{cons_of}
use Rattle.palm_model.specs.State.{EngineState}
use Rattle.palm_model.specs.Trial.{listed, value_count}
use Rattle.palm_search.specs.declared.ending.SearchEnd.{SearchEnd}
use Rattle.palm_search.specs.declared.ending.SearchEnd.TheVariants.{Found, NoSolution, Spent}
use Rattle.palm_search.specs.Measure.{most_turns}
use Rattle.palm_search.specs.Search.{AreUnsolved}

-- the values satisfy all active constraints; the users have no common solution; the turns are as many as the budget
-- allows, which is below the bound
abbrev pub IsTrueOf : EngineState → ℕ → SearchEnd → Type 0
IsTrueOf s budget (Found values) = IsSolution s.initial (Contains (cons_of s.active)) (listed values)
IsTrueOf s budget (NoSolution users) = AreUnsolved s users
IsTrueOf s budget (Spent turns) = (turns ≡ budget) × (turns < most_turns (length s.initial) (value_count s.initial))
