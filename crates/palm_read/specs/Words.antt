-- Words of a printed text, and lists of numbers in it.
use Rattle.std.specs.Prelude.{ℕ, ℤ, List, ◌++◌, flat_map, codes}
use Rattle.std.specs.List.{join_by}
use Rattle.std.specs.Fmt.{signed_decimal}

-- the words with one space between two of them
abbrev pub spaced : List (List ℕ) → List ℕ
spaced words = join_by (λ w. w) (codes " ") words

-- the words with one space before each
abbrev pub after_spaces : List (List ℕ) → List ℕ
after_spaces words = flat_map (λ w. codes " " ++ w) words

-- the numbers with a comma between two of them
abbrev pub with_commas : List ℤ → List ℕ
with_commas vs = join_by signed_decimal (codes ",") vs

-- (1,2)
abbrev pub row_text : List ℤ → List ℕ
row_text vs = codes "(" ++ with_commas vs ++ codes ")"
