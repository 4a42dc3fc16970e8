-- How many variables and constraints there may be in each mode.
use Rattle.std.specs.Prelude.{ℕ}
use Rattle.palm_read.specs.declared.mode.Mode.{Mode}
use Rattle.palm_read.specs.declared.mode.Mode.TheVariants.{Two}
use Rattle.palm_book.specs.declared.limits.TheConstants.{MOST_VARIABLES, MOST_CONSTRAINTS, MOST_VARIABLES_IN_ONE, MOST_CONSTRAINTS_IN_ONE}

-- the most variables
abbrev pub most_variables : Mode → ℕ
most_variables Two = MOST_VARIABLES
most_variables _ = MOST_VARIABLES_IN_ONE

-- the most constraints at a time
abbrev pub most_constraints : Mode → ℕ
most_constraints Two = MOST_CONSTRAINTS
most_constraints _ = MOST_CONSTRAINTS_IN_ONE
