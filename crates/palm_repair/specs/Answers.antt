-- How a repair ended, and what the answer holds of the constraints that were active before it.
use Rattle.std.specs.Prelude.{◌≡◌, ℕ, ⊤, ◌<◌, ◌⊎◌, Bool, List, Contains}
use Rattle.palm_model.specs.Closure.{IsSolution}
use Rattle.palm_model.specs.Log.{cons_of}
use Rattle.palm_model.specs.State.{EngineState}
use Rattle.palm_model.specs.Trial.{listed}
use Rattle.palm_search.specs.declared.turn.Turn.{Turn}
use Rattle.palm_search.specs.declared.ending.SearchEnd.{SearchEnd}
use Rattle.palm_search.specs.declared.ending.SearchEnd.TheVariants.{Found as EndFound, NoSolution as EndNoSolution, Spent as EndSpent}
use Rattle.palm_search.specs.Search.{AreUnsolved}
use Rattle.palm_repair.specs.declared.answer.RepairAnswer.{RepairAnswer}
use Rattle.palm_repair.specs.declared.answer.RepairAnswer.TheVariants.{Found, NoSolution, Spent}
use Rattle.palm_repair.specs.Repair.{Repairs}
use Rattle.palm_repair.specs.Sets.{most_repair_turns}

-- the end of the run that the answer tells
abbrev pub end_of : RepairAnswer → SearchEnd
end_of (Found values) = EndFound values
end_of (NoSolution users) = EndNoSolution users
end_of (Spent turns dropped) = EndSpent turns

-- an answer that tells how many nogoods were dropped tells this number
abbrev pub TellsDropped : RepairAnswer → ℕ → Type 0
TellsDropped (Found values) number = ⊤
TellsDropped (NoSolution users) number = ⊤
TellsDropped (Spent turns dropped) number = dropped ≡ number

-- the turns are those of a repair from s to t, which ended as the answer tells
pub record HasRepaired (guided ordered : Bool) (tabu budget : ℕ) (s : EngineState) (turns : List Turn) (t : EngineState) (answer : RepairAnswer) : Type 0 where
  pub dropped : ℕ
  pub repairs : Repairs guided ordered tabu budget s turns (end_of answer) dropped t
  pub told : TellsDropped answer dropped

-- the values satisfy all active constraints; the users have no common solution; the turns are as many as the budget
-- allows, and a nogood was dropped or they are below the bound
abbrev pub IsTrueOf : EngineState → ℕ → RepairAnswer → Type 0
IsTrueOf s budget (Found values) = IsSolution s.initial (Contains (cons_of s.active)) (listed values)
IsTrueOf s budget (NoSolution users) = AreUnsolved s users
IsTrueOf s budget (Spent turns dropped) = (turns ≡ budget) × ((0 < dropped) ⊎ (turns < most_repair_turns s.initial))
