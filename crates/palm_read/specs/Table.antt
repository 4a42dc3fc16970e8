-- A table on a line: `table x y : (1,2) (2,3)`.
use Rattle.std.specs.Prelude.{◌≡◌, ℕ, ℤ, ◌<◌, List, ◌∷◌, ◌++◌, length, map, flat_map, All, codes}
use Rattle.palm_model.specs.declared.limits.TheConstants.{MOST_ROWS}
use Rattle.palm_read.specs.Bounds.{Bounded, a_value}
use Rattle.palm_read.specs.Piece.{Piece, Keyword, Named, Mark, in_parentheses}
use Rattle.palm_read.specs.Words.{row_text}
use Rattle.palm_read.specs.declared.line.Shape.{Shape}
use Rattle.palm_read.specs.declared.line.Shape.TheVariants.{Table}

-- ---- grammar

-- "table" NAME { NAME } ":" { row }
abbrev pub table_pieces : List (List ℕ) → List (List ℤ) → List Piece
table_pieces vars rows = Keyword (codes "table") ∷ map Named vars ++ Mark (codes ":") ∷ flat_map in_parentheses rows

-- there is a name, and each row has as many entries as there are names
abbrev pub IsProperTable : List (List ℕ) → List (List ℤ) → Type 0
IsProperTable vars rows = (0 < length vars) × All (λ row. length row ≡ length vars) rows

-- ---- what it says

abbrev pub table_shape : List (List ℕ) → List (List ℤ) → Shape
table_shape vars rows = Table vars rows

-- ---- limits

abbrev pub table_numbers : List (List ℤ) → List Bounded
table_numbers rows = flat_map (map a_value) rows

-- more rows than a table may have
abbrev pub HasManyTableRows : List (List ℤ) → Type 0
HasManyTableRows rows = MOST_ROWS < length rows

-- ---- text

abbrev pub table_words : List (List ℕ) → List (List ℤ) → List (List ℕ)
table_words vars rows = codes "table" ∷ vars ++ codes ":" ∷ map row_text rows
