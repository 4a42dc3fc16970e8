-- Which variables a constraint is over, which constraints are formed, and which of these are well formed. The words of each kind stand in the file
-- of its name.
use Rattle.std.specs.Prelude.{ℕ, ◌<◌, ◌≤◌, List, [], ◌∷◌, length, Contains, All, ⊤}
use Rattle.palm_model.specs.Comparison.{IsOffset, comparison_scope}
use Rattle.palm_model.specs.Linear.{IsLinearShaped, term_vars}
use Rattle.palm_model.specs.Table.{IsTableShaped}
use Rattle.palm_model.specs.Element.{IsElementShaped, element_scope}
use Rattle.palm_model.specs.Count.{IsCountShaped, count_scope}
use Rattle.palm_model.specs.Differ.{IsDifferShaped}
use Rattle.palm_model.specs.Within.{IsWithinShaped}
use Rattle.palm_model.specs.Limits.{IsValue}
use Rattle.palm_model.specs.declared.constraint.Con.{Con}
use Rattle.palm_model.specs.declared.constraint.Con.TheVariants.{CompareVar, CompareConst, Linear, Table, Element, Count, Differ, Within}
use Rattle.palm_model.specs.declared.limits.TheConstants.{MOST_SCOPE}

-- the variables of a constraint, in the order of its text
abbrev pub scope : Con → List ℕ
scope (CompareVar left op right offset) = comparison_scope left right
scope (CompareConst left op value) = left ∷ []
scope (Linear terms op bound) = term_vars terms
scope (Table vars rows) = vars
scope (Element outcome index entries) = element_scope outcome index
scope (Count value vars op target) = count_scope vars target
scope (Differ vars) = vars
scope (Within var values) = var ∷ []

-- no member stands twice
abbrev pub Distinct : List ℕ → Type 0
Distinct [] = ⊤
Distinct (x ∷ xs) = (Contains xs x → ⊥) × Distinct xs

-- the numbers and lists of a constraint are within the limits of the language
abbrev pub IsShaped : Con → Type 0
IsShaped (CompareVar left op right offset) = IsOffset offset
IsShaped (CompareConst left op value) = IsValue value
IsShaped (Linear terms op bound) = IsLinearShaped terms op bound
IsShaped (Table vars rows) = IsTableShaped vars rows
IsShaped (Element outcome index entries) = IsElementShaped entries
IsShaped (Count value vars op target) = IsCountShaped value vars target
IsShaped (Differ vars) = IsDifferShaped vars
IsShaped (Within var values) = IsWithinShaped values

-- a constraint that means something over the first so many variables, whatever its numbers and however long its lists
pub record IsFormed (variables : ℕ) (c : Con) : Type 0 where
  pub declared : All (λ x. x < variables) (scope c)
  pub distinct : Distinct (scope c)

-- a constraint of the language over the first so many variables
pub record IsWellFormed (variables : ℕ) (c : Con) : Type 0 where
  pub declared : All (λ x. x < variables) (scope c)
  pub distinct : Distinct (scope c)
  pub some : 0 < length (scope c)
  pub few : length (scope c) ≤ MOST_SCOPE
  pub shaped : IsShaped c
