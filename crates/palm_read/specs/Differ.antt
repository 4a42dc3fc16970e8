-- A differ constraint on a line: `differ x y z`.
use Rattle.std.specs.Prelude.{ℕ, ◌≤◌, List, ◌∷◌, length, map, codes}
use Rattle.palm_read.specs.Piece.{Piece, Keyword, Named}
use Rattle.palm_read.specs.declared.line.Shape.{Shape}
use Rattle.palm_read.specs.declared.line.Shape.TheVariants.{Differ}

-- ---- grammar

-- "differ" NAME NAME { NAME }
abbrev pub differ_pieces : List (List ℕ) → List Piece
differ_pieces vars = Keyword (codes "differ") ∷ map Named vars

-- there are two names at least
abbrev pub IsProperDiffer : List (List ℕ) → Type 0
IsProperDiffer vars = 2 ≤ length vars

-- ---- what it says

abbrev pub differ_shape : List (List ℕ) → Shape
differ_shape vars = Differ vars

-- ---- text

abbrev pub differ_words : List (List ℕ) → List (List ℕ)
differ_words vars = codes "differ" ∷ vars
