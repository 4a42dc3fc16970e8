-- Lists of values, one for each variable. A variable is the place of its list.
use Rattle.std.specs.Prelude.{ℕ, ℤ, List, [], slice_index_or}

-- the values of a variable, and none for a variable that does not exist
abbrev pub values_of : List (List ℤ) → ℕ → List ℤ
values_of lists x = slice_index_or lists x []
