-- One move of a minimization after another.
use Rattle.std.specs.Prelude.{◌≡◌, ℕ, ℤ, pos, ◌+◌, ◌+ℤ◌, ◌<◌, ◌≤ℤ◌, ⊤, Option, None, Some, List, filter, not, Contains}
use Rattle.palm_base.specs.declared.terms.Cid.{Cid}
use Rattle.palm_base.specs.declared.terms.Cid.TheVariants.{User}
use Rattle.palm_model.specs.Event.{Posts}
use Rattle.palm_model.specs.Limits.{IsValue}
use Rattle.palm_model.specs.Log.{IsActive}
use Rattle.palm_model.specs.State.{EngineState}
use Rattle.palm_model.specs.Trial.{listed}
use Rattle.palm_model.specs.declared.limits.TheConstants.{GREATEST_VALUE}
use Rattle.palm_search.specs.Calls.{SearchView, search_state}
use Rattle.palm_best.specs.Cuts.{cut_of, is_cut}
use Rattle.palm_best.specs.Moves.{BestState}
use Rattle.palm_best.specs.declared.best.Best.{Best}
use Rattle.palm_best.specs.declared.best.Best.TheVariants.{Least, NoSolution}
use Rattle.palm_best.specs.declared.incumbent.Incumbent.{Incumbent}
use Rattle.palm_best.specs.declared.limits.TheConstants.{FIRST_CUT}

-- a search with its incumbent
abbrev pub best_state : EngineState → SearchView → Incumbent → BestState
best_state engine search incumbent = record { search = search_state engine search; incumbent = incumbent.values; cuts = incumbent.cuts }

-- the cut below the values was posted, and they are the incumbent
pub record Cuts (target : ℕ) (s : EngineState) (before : Incumbent) (found : List ℤ) (t : EngineState) (after : Incumbent) : Type 0 where
  pub posts : Posts s (cut_of target before.cuts (listed found target)) t
  pub values : after.values ≡ Some found
  pub cuts : after.cuts ≡ before.cuts + 1

-- the active cuts are those that were posted
pub record HasCuts (cuts : ℕ) (s : EngineState) : Type 0 where
  pub posted : (k : ℕ) → k < cuts → IsActive s.active (User (FIRST_CUT + k))
  pub none : (k : ℕ) → IsActive s.active (User (FIRST_CUT + k)) → k < cuts

-- each cut falls below the one before it, so there are fewer of them than there are values of the language
abbrev pub AreCounted : ℕ → ℕ → Option (List ℤ) → Type 0
AreCounted target cuts None = cuts ≡ 0
AreCounted target cuts (Some values) = ((pos cuts +ℤ listed values target) ≤ℤ pos (GREATEST_VALUE + 1)) × IsValue (listed values target)

-- some cut is below the incumbent
abbrev pub HasLast : ℕ → Option (List ℤ) → EngineState → Type 0
HasLast target None s = ⊤
HasLast target (Some values) s = (k : ℕ) × Contains s.active (cut_of target k (listed values target))

-- how the run ends at a conflict without decisions, whose users these are
abbrev pub Proves : Option (List ℤ) → List Cid → Best → Type 0
Proves None users best = best ≡ NoSolution users
Proves (Some values) users best = best ≡ Least values (filter (λ c. not (is_cut c)) users)
