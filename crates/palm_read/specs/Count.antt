-- A count on a line: `count 1 a b = n`.
use Rattle.std.specs.Prelude.{ℕ, ℤ, ◌<◌, List, [], ◌∷◌, ◌++◌, length, map, codes, ⊤}
use Rattle.std.specs.Fmt.{signed_decimal}
use Rattle.palm_model.specs.Limits.{IsValue}
use Rattle.palm_model.specs.declared.constraint.Op.{Op}
use Rattle.palm_read.specs.Bounds.{Bounded, a_value}
use Rattle.palm_read.specs.Piece.{Piece, Keyword, Named, Mark, Integer, op_text}
use Rattle.palm_read.specs.declared.line.NameTarget.{NameTarget}
use Rattle.palm_read.specs.declared.line.NameTarget.TheVariants.{Const as ConstTarget, Variable as VariableTarget}
use Rattle.palm_read.specs.declared.line.Shape.{Shape}
use Rattle.palm_read.specs.declared.line.Shape.TheVariants.{Count}

-- what a count is compared with
pub data TargetForm : Type 0 where
  Number : (value : ℤ) → TargetForm
  Variable : (name : List ℕ) → TargetForm

-- ---- grammar

-- INT or NAME
abbrev pub target_pieces : TargetForm → List Piece
target_pieces (Number value) = Integer value ∷ []
target_pieces (Variable name) = Named name ∷ []

-- "count" INT NAME { NAME } op target
abbrev pub count_pieces : ℤ → List (List ℕ) → Op → TargetForm → List Piece
count_pieces value vars op target = Keyword (codes "count") ∷ Integer value ∷ map Named vars ++ Mark (op_text op) ∷ target_pieces target

-- a name is counted
abbrev pub IsProperCount : List (List ℕ) → Type 0
IsProperCount vars = 0 < length vars

-- ---- what it says

abbrev pub line_target : TargetForm → NameTarget
line_target (Number value) = ConstTarget value
line_target (Variable name) = VariableTarget name

abbrev pub count_shape : ℤ → List (List ℕ) → Op → TargetForm → Shape
count_shape value vars op target = Count value vars op (line_target target)

-- ---- limits

abbrev pub target_numbers : TargetForm → List Bounded
target_numbers (Number value) = a_value value ∷ []
target_numbers (Variable name) = []

abbrev pub count_numbers : ℤ → TargetForm → List Bounded
count_numbers value target = a_value value ∷ target_numbers target

abbrev pub line_target_names : NameTarget → List (List ℕ)
line_target_names (ConstTarget value) = []
line_target_names (VariableTarget name) = name ∷ []

abbrev pub IsSoundTarget : NameTarget → Type 0
IsSoundTarget (ConstTarget value) = IsValue value
IsSoundTarget (VariableTarget name) = ⊤

-- ---- text

abbrev pub target_words : NameTarget → List (List ℕ)
target_words (ConstTarget value) = signed_decimal value ∷ []
target_words (VariableTarget name) = name ∷ []

abbrev pub count_words : ℤ → List (List ℕ) → Op → NameTarget → List (List ℕ)
count_words value vars op target = codes "count" ∷ signed_decimal value ∷ vars ++ op_text op ∷ target_words target
