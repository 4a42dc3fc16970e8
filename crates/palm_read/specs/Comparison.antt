-- A comparison on a line: `x < y + 1`, or `x < 3`.
use Rattle.std.specs.Prelude.{ℕ, ℤ, pos, negsuc, neg_ℤ, ◌+◌, ◌==◌, List, [], ◌∷◌, codes, decimal, if◌then◌else◌}
use Rattle.std.specs.Fmt.{signed_decimal}
use Rattle.palm_model.specs.declared.constraint.Op.{Op}
use Rattle.palm_model.specs.declared.limits.TheConstants.{GREATEST_OFFSET}
use Rattle.palm_read.specs.Bounds.{Bounded, a_value, up_to}
use Rattle.palm_read.specs.Piece.{Piece, Named, Mark, Integer, Natural, op_text}
use Rattle.palm_read.specs.declared.line.Shape.{Shape}
use Rattle.palm_read.specs.declared.line.Shape.TheVariants.{CompareVar, CompareConst}

-- an offset: none, or a number behind `+` or `-`
pub data OffsetForm : Type 0 where
  NoOffset : OffsetForm
  Plus : (number : ℕ) → OffsetForm
  Minus : (number : ℕ) → OffsetForm

-- ---- grammar

-- [ ( "+" | "-" ) DIGITS ]
abbrev pub offset_pieces : OffsetForm → List Piece
offset_pieces NoOffset = []
offset_pieces (Plus n) = Mark (codes "+") ∷ Natural n ∷ []
offset_pieces (Minus n) = Mark (codes "-") ∷ Natural n ∷ []

-- NAME op NAME, and an offset
abbrev pub compare_var_pieces : List ℕ → Op → List ℕ → OffsetForm → List Piece
compare_var_pieces left op right offset = Named left ∷ Mark (op_text op) ∷ Named right ∷ offset_pieces offset

-- NAME op INT
abbrev pub compare_const_pieces : List ℕ → Op → ℤ → List Piece
compare_const_pieces left op value = Named left ∷ Mark (op_text op) ∷ Integer value ∷ []

-- ---- what it says

abbrev pub offset_of : OffsetForm → ℤ
offset_of NoOffset = pos 0
offset_of (Plus n) = pos n
offset_of (Minus n) = neg_ℤ (pos n)

abbrev pub compare_var_shape : List ℕ → Op → List ℕ → OffsetForm → Shape
compare_var_shape left op right offset = CompareVar left op right (offset_of offset)

abbrev pub compare_const_shape : List ℕ → Op → ℤ → Shape
compare_const_shape left op value = CompareConst left op value

-- ---- limits

abbrev pub offset_numbers : OffsetForm → List Bounded
offset_numbers NoOffset = []
offset_numbers (Plus n) = up_to GREATEST_OFFSET n ∷ []
offset_numbers (Minus n) = up_to GREATEST_OFFSET n ∷ []

abbrev pub compare_const_numbers : ℤ → List Bounded
compare_const_numbers value = a_value value ∷ []

-- ---- text

-- an offset of 0 is left out
abbrev pub offset_words : ℤ → List (List ℕ)
offset_words (pos n) = if n == 0 then [] else codes "+" ∷ decimal n ∷ []
offset_words (negsuc n) = codes "-" ∷ decimal (n + 1) ∷ []

abbrev pub compare_var_words : List ℕ → Op → List ℕ → ℤ → List (List ℕ)
compare_var_words left op right offset = left ∷ op_text op ∷ right ∷ offset_words offset

abbrev pub compare_const_words : List ℕ → Op → ℤ → List (List ℕ)
compare_const_words left op value = left ∷ op_text op ∷ signed_decimal value ∷ []
