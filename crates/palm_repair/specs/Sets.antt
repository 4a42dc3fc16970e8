-- How many sets of decisions there are, which bounds the turns of a repair.
use Rattle.std.specs.Prelude.{ℕ, ◌+◌, ◌*◌, [], ◌∷◌, length}
use Rattle.palm_model.specs.Domains.{Domains}

-- a set of decisions has, for each variable, one of its declared values or none: so many such sets there are
abbrev pub decision_sets : Domains → ℕ
decision_sets [] = 1
decision_sets (vs ∷ d) = (length vs + 1) * decision_sets d

-- a repair in which no nogood was dropped has fewer turns
abbrev pub most_repair_turns : Domains → ℕ
most_repair_turns d = (length d + 1) * decision_sets d
