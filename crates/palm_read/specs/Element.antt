-- An element constraint on a line: `element z y (5,3,5)`.
use Rattle.std.specs.Prelude.{ℕ, ℤ, ◌<◌, List, [], ◌∷◌, length, map, codes}
use Rattle.palm_model.specs.declared.limits.TheConstants.{MOST_ROWS}
use Rattle.palm_read.specs.Bounds.{Bounded, a_value}
use Rattle.palm_read.specs.Piece.{Piece, Keyword, Named, in_parentheses}
use Rattle.palm_read.specs.Words.{row_text}
use Rattle.palm_read.specs.declared.line.Shape.{Shape}
use Rattle.palm_read.specs.declared.line.Shape.TheVariants.{Element}

-- ---- grammar

-- "element" NAME NAME entries
abbrev pub element_pieces : List ℕ → List ℕ → List ℤ → List Piece
element_pieces outcome index entries = Keyword (codes "element") ∷ Named outcome ∷ Named index ∷ in_parentheses entries

-- ---- what it says

abbrev pub element_shape : List ℕ → List ℕ → List ℤ → Shape
element_shape outcome index entries = Element outcome index entries

-- ---- limits

abbrev pub element_numbers : List ℤ → List Bounded
element_numbers entries = map a_value entries

-- more entries than there may be
abbrev pub HasManyEntries : List ℤ → Type 0
HasManyEntries entries = MOST_ROWS < length entries

-- ---- text

abbrev pub element_words : List ℕ → List ℕ → List ℤ → List (List ℕ)
element_words outcome index entries = codes "element" ∷ outcome ∷ index ∷ row_text entries ∷ []
