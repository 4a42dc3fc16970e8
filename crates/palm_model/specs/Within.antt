-- That the value of a variable is one of some values: limits, part. Its scope is the variable, and its reason is empty.
use Rattle.std.specs.Prelude.{ℕ, ℤ, ◌<◌, ◌≤◌, List, length, All, Contains, ⊤}
use Rattle.palm_model.specs.Domains.{Ascends, Assignment}
use Rattle.palm_model.specs.Limits.{IsValue}
use Rattle.palm_model.specs.declared.constraint.Con.{Con}
use Rattle.palm_model.specs.declared.constraint.Con.TheVariants.{CompareVar, CompareConst, Linear, Table, Element, Count, Differ, Within}
use Rattle.palm_model.specs.declared.limits.TheConstants.{MOST_LISTED}

-- the value of a variable is one of some values
abbrev pub IsWithinCon : Con → Type 0
IsWithinCon (Within var values) = ⊤
IsWithinCon _ = ⊥

-- at least one value, not too many, ascending, each a value of the language
pub record IsWithinShaped (values : List ℤ) : Type 0 where
  pub some : 0 < length values
  pub few : length values ≤ MOST_LISTED
  pub ascend : Ascends values
  pub each : All IsValue values

-- the value of the variable is one of the values
abbrev pub HoldsWithin : ℕ → List ℤ → Assignment → Type 0
HoldsWithin var values a = Contains values (a var)
