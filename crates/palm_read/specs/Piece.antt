-- Pieces: what a form is written with, one after another, and which tokens spell a piece.
use Rattle.std.specs.Prelude.{◌≡◌, ℕ, ℤ, pos, neg_ℤ, List, [], ◌∷◌, ◌++◌, ◌⊎◌, flat_map, codes}
pub use Rattle.palm_base.specs.Numbers.{digits_number}
use Rattle.palm_model.specs.declared.constraint.Op.{Op}
use Rattle.palm_model.specs.declared.constraint.Op.TheVariants.{Eq, Ne, Lt, Le, Gt, Ge}
use Rattle.palm_read.specs.declared.tokens.TokenKind.TheVariants.{Word, Digits, Sign}
use Rattle.palm_read.specs.Name.{IsName}
use Rattle.palm_read.specs.Token.{Lexeme}

-- a piece of a form: a word of the language, a name, a sign, a whole number, digits for a number, or digits written just so
pub data Piece : Type 0 where
  Keyword : (text : List ℕ) → Piece
  Named : (name : List ℕ) → Piece
  Mark : (text : List ℕ) → Piece
  Integer : (number : ℤ) → Piece
  Natural : (number : ℕ) → Piece
  Numeral : (text : List ℕ) → Piece

abbrev pub word : List ℕ → Lexeme
word text = record { kind = Word; text = text }

abbrev pub sign : List ℕ → Lexeme
sign text = record { kind = Sign; text = text }

abbrev pub numeral : List ℕ → Lexeme
numeral text = record { kind = Digits; text = text }

-- digits for a number, leading zeros among them
abbrev pub IsNatural : List Lexeme → ℕ → Type 0
IsNatural tokens n = (digits : List ℕ) × (tokens ≡ numeral digits ∷ []) × (n ≡ digits_number digits)

-- digits for a number, or `-` and digits
abbrev pub IsInteger : List Lexeme → ℤ → Type 0
IsInteger tokens z =
    ((n : ℕ) × IsNatural tokens n × (z ≡ pos n))
    ⊎ ((n : ℕ) × (behind : List Lexeme) × (tokens ≡ sign (codes "-") ∷ behind) × IsNatural behind n × (z ≡ neg_ℤ (pos n)))

-- the tokens spell the piece
abbrev pub IsPiece : List Lexeme → Piece → Type 0
IsPiece tokens (Keyword text) = tokens ≡ word text ∷ []
IsPiece tokens (Named name) = (tokens ≡ word name ∷ []) × IsName name
IsPiece tokens (Mark text) = tokens ≡ sign text ∷ []
IsPiece tokens (Integer z) = IsInteger tokens z
IsPiece tokens (Natural n) = IsNatural tokens n
IsPiece tokens (Numeral text) = tokens ≡ numeral text ∷ []

-- the tokens spell the pieces, one after another
abbrev pub Spells : List Lexeme → List Piece → Type 0
Spells tokens [] = tokens ≡ []
Spells tokens (p ∷ ps) = (front back : List Lexeme) × (tokens ≡ front ++ back) × IsPiece front p × Spells back ps

-- a relation's sign
abbrev pub op_text : Op → List ℕ
op_text Eq = codes "="
op_text Ne = codes "!="
op_text Lt = codes "<"
op_text Le = codes "<="
op_text Gt = codes ">"
op_text Ge = codes ">="

-- INT { "," INT }
abbrev pub listed : List ℤ → List Piece
listed [] = []
listed (v ∷ vs) = Integer v ∷ flat_map (λ w. Mark (codes ",") ∷ Integer w ∷ []) vs

-- "(" INT { "," INT } ")"
abbrev pub in_parentheses : List ℤ → List Piece
in_parentheses vs = Mark (codes "(") ∷ listed vs ++ Mark (codes ")") ∷ []
