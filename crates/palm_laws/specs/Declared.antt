-- Constraints over declared variables.
use Rattle.std.specs.Prelude.{ℕ, ◌<◌, Contains}
use Rattle.palm_model.specs.Part.{scope_of, parts}
use Rattle.palm_model.specs.declared.constraint.Con.{Con}
use Rattle.palm_model.specs.declared.part.Part.{Part}

-- each part of each constraint of the set is over the first so many variables
abbrev pub AreDeclared : ℕ → (Con → Type 0) → Type 0
AreDeclared variables E = (c : Con) (p : Part) (x : ℕ) → E c → Contains (parts c) p → Contains (scope_of p) x → x < variables
