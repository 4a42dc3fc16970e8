-- A linear constraint on a line: `sum -2*x + y <= 3`.
use Rattle.std.specs.Prelude.{◌≢◌, ℕ, ℤ, pos, negsuc, neg_ℤ, ◌+◌, ◌<◌, ◌==◌, Bool, true, false, Option, Some, None, List, [], ◌∷◌, ◌++◌, length, map, flat_map, option_to_list, unwrap_or, codes, decimal, if◌then◌else◌}
use Rattle.std.specs.Fmt.{signed_decimal}
use Rattle.palm_model.specs.Limits.{IsUpTo}
use Rattle.palm_model.specs.Linear.{IsLinearOp}
use Rattle.palm_model.specs.declared.constraint.Op.{Op}
use Rattle.palm_model.specs.declared.limits.TheConstants.{GREATEST_FACTOR, GREATEST_BOUND}
use Rattle.palm_read.specs.Bounds.{Bounded, up_to}
use Rattle.palm_read.specs.Piece.{Piece, Keyword, Named, Mark, Integer, Natural, op_text}
use Rattle.palm_read.specs.declared.line.NameTerm.{NameTerm}
use Rattle.palm_read.specs.declared.line.Shape.{Shape}
use Rattle.palm_read.specs.declared.line.Shape.TheVariants.{Linear}

-- a term: whether `-` stands before it, the coefficient if one is written, and the variable
pub record TermForm : Type 0 where
  pub minus : Bool
  pub factor : Option ℕ
  pub name : List ℕ

-- ---- grammar

-- NAME, or DIGITS "*" NAME
abbrev pub linear_unsigned_term : Option ℕ → List ℕ → List Piece
linear_unsigned_term None name = Named name ∷ []
linear_unsigned_term (Some n) name = Natural n ∷ Mark (codes "*") ∷ Named name ∷ []

-- the first term has no sign or `-` before it
abbrev pub linear_first_term : Bool → List Piece → List Piece
linear_first_term true term = Mark (codes "-") ∷ term
linear_first_term false term = term

-- each later term has `+` or `-` before it
abbrev pub linear_later_term : Bool → List Piece → List Piece
linear_later_term true term = Mark (codes "-") ∷ term
linear_later_term false term = Mark (codes "+") ∷ term

-- [ "-" ] term { ( "+" | "-" ) term }
abbrev pub linear_terms : List TermForm → List Piece
linear_terms [] = []
linear_terms (t ∷ ts) =
    linear_first_term t.minus (linear_unsigned_term t.factor t.name)
    ++ flat_map (λ u. linear_later_term u.minus (linear_unsigned_term u.factor u.name)) ts

-- "sum" terms lop INT
abbrev pub linear_pieces : List TermForm → Op → ℤ → List Piece
linear_pieces terms op bound = Keyword (codes "sum") ∷ linear_terms terms ++ Mark (op_text op) ∷ Integer bound ∷ []

-- there is a term, and the relation is one of sums
abbrev pub IsProperLinear : List TermForm → Op → Type 0
IsProperLinear terms op = (0 < length terms) × IsLinearOp op

-- ---- what it says

abbrev pub signed : Bool → ℕ → ℤ
signed true n = neg_ℤ (pos n)
signed false n = pos n

-- a term without a coefficient has the coefficient 1
abbrev pub term_of : TermForm → NameTerm
term_of t = record { factor = signed t.minus (unwrap_or t.factor 1); name = t.name }

abbrev pub linear_shape : List TermForm → Op → ℤ → Shape
linear_shape terms op bound = Linear (map term_of terms) op bound

-- ---- limits

abbrev pub linear_numbers : List TermForm → ℤ → List Bounded
linear_numbers terms bound =
    flat_map (λ t. map (up_to GREATEST_FACTOR) (option_to_list t.factor)) terms
    ++ record { number = bound; least = neg_ℤ (pos GREATEST_BOUND); greatest = pos GREATEST_BOUND } ∷ []

abbrev pub IsSoundTerm : NameTerm → Type 0
IsSoundTerm t = (t.factor ≢ pos 0) × IsUpTo GREATEST_FACTOR t.factor

-- ---- text

-- 3*x, where a coefficient of 1 is left out
abbrev pub linear_product_text : ℕ → List ℕ → List ℕ
linear_product_text n name = if n == 1 then name else decimal n ++ codes "*" ++ name

-- the first term: a `-` stands directly before it
abbrev pub linear_first_text : ℤ → List ℕ → List ℕ
linear_first_text (pos n) name = linear_product_text n name
linear_first_text (negsuc n) name = codes "-" ++ linear_product_text (n + 1) name

-- a later term: `+` or `-`, and the term
abbrev pub linear_later_words : ℤ → List ℕ → List (List ℕ)
linear_later_words (pos n) name = codes "+" ∷ linear_product_text n name ∷ []
linear_later_words (negsuc n) name = codes "-" ∷ linear_product_text (n + 1) name ∷ []

abbrev pub linear_terms_words : List NameTerm → List (List ℕ)
linear_terms_words [] = []
linear_terms_words (t ∷ ts) = linear_first_text t.factor t.name ∷ flat_map (λ u. linear_later_words u.factor u.name) ts

abbrev pub linear_words : List NameTerm → Op → ℤ → List (List ℕ)
linear_words terms op bound = codes "sum" ∷ linear_terms_words terms ++ op_text op ∷ signed_decimal bound ∷ []
