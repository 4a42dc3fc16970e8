-- Variables that pairwise differ: scope, limits, parts, reason.
use Rattle.std.specs.Prelude.{◌≢◌, ℕ, ℤ, ◌≤◌, List, [], ◌∷◌, ◌++◌, length, map, filter, take, ⊤}
use Rattle.palm_base.specs.declared.terms.Pair.{Pair}
use Rattle.palm_model.specs.Domains.{Assignment, Domains, values_of}
use Rattle.palm_model.specs.Removed.{is_alone, others, removed_pairs}
use Rattle.palm_model.specs.declared.constraint.Con.{Con}
use Rattle.palm_model.specs.declared.constraint.Con.TheVariants.{CompareVar, CompareConst, Linear, Table, Element, Count, Differ}
use Rattle.palm_model.specs.declared.part.Part.{Part}
use Rattle.palm_model.specs.declared.part.Part.TheVariants.{Differ as DifferPart}

-- variables that differ
abbrev pub IsDiffer : Con → Type 0
IsDiffer (Differ vars) = ⊤
IsDiffer _ = ⊥

-- at least two variables
abbrev pub IsDifferShaped : List ℕ → Type 0
IsDifferShaped vars = 2 ≤ length vars

-- the two variables have different values
abbrev pub HoldsDiffer : ℕ → ℕ → Assignment → Type 0
HoldsDiffer first second a = a first ≢ a second

-- each variable differs from each later one
abbrev pub differ_parts : List ℕ → List Part
differ_parts [] = []
differ_parts (x ∷ xs) = map (DifferPart x) xs ++ differ_parts xs

-- the removed pairs of the first other variable whose only value is v
abbrev pub differ_reason : Domains → Domains → List ℕ → ℕ → ℤ → List Pair
differ_reason initial present vars x v =
    removed_pairs initial present (take 1 (filter (λ y. is_alone (values_of present y) v) (others vars x)))
