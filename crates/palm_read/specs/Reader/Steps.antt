-- Readers: each takes what it reads from the front of the tokens, and answers nothing where no form goes on so.
use Rattle.std.specs.Prelude.{ℕ, ℤ, pos, neg_ℤ, nat_le, Bool, true, false, not, ◌&&◌, ◌||◌, Option, Some, None, List, [], ◌∷◌, length, drop, codes}
use Rattle.std.specs.Str.{bytes_eq}
use Rattle.palm_model.specs.declared.constraint.Op.{Op}
use Rattle.palm_model.specs.declared.constraint.Op.TheVariants.{Eq, Ne, Lt, Le, Gt, Ge}
use Rattle.palm_read.specs.declared.tokens.TokenKind.{TokenKind}
use Rattle.palm_read.specs.declared.tokens.TokenKind.TheVariants.{Word, Digits, Sign, Other}
use Rattle.palm_read.specs.declared.limits.TheConstants.{MOST_NAME_BYTES}
use Rattle.palm_read.specs.Token.{Lexeme}
use Rattle.palm_read.specs.Piece.{digits_number}

-- what was read, and the tokens behind it
abbrev pub Reading : Type 0 → Type 0
Reading A = Option (A × List Lexeme)

-- one reader, and then another on what is left
unfoldable pub and_then : {A B : Type 0} → Option A → (A → Option B) → Option B
and_then None f = None
and_then (Some x) f = f x

infixl 10 ◌>>=◌
abbrev pub ◌>>=◌ : {A B : Type 0} → Option A → (A → Option B) → Option B
r >>= f = and_then r f

-- one reader where it finds its token in front, and another where it does not
unfoldable pub when : {A B : Type 0} → Option A → (A → Option B) → Option B → Option B
when None f otherwise = otherwise
when (Some x) f otherwise = f x

-- one reading where the test holds, and another where it does not
unfoldable pub choose : {A : Type 0} → Bool → Option A → Option A → Option A
choose true x y = x
choose false x y = y

-- no token is left
abbrev pub is_empty : List Lexeme → Bool
is_empty [] = true
is_empty (t ∷ ts) = false

-- ---- tokens

abbrev pub is_kind : TokenKind → TokenKind → Bool
is_kind Word Word = true
is_kind Digits Digits = true
is_kind Sign Sign = true
is_kind Other Other = true
is_kind _ _ = false

-- the text of the token in front, where it is of this kind
unfoldable pub front_text : TokenKind → List Lexeme → Option (List ℕ)
front_text kind [] = None
front_text kind (t ∷ ts) = choose (is_kind t.kind kind) (Some t.text) None

unfoldable pub token_at : TokenKind → List Lexeme → Reading (List ℕ)
token_at kind tokens = do
  text ← front_text kind tokens
  Some (text, drop 1 tokens)

-- what stands behind this token, where it is in front
unfoldable pub behind : TokenKind → List ℕ → List Lexeme → Option (List Lexeme)
behind kind text tokens = do
  t ← token_at kind tokens
  choose (bytes_eq t.0 text) (Some t.1) None

abbrev pub keyword_at : List ℕ → List Lexeme → Option (List Lexeme)
keyword_at text tokens = behind Word text tokens

abbrev pub mark_at : List ℕ → List Lexeme → Option (List Lexeme)
mark_at text tokens = behind Sign text tokens

-- ---- names, numbers and relations

abbrev pub is_reserved : List ℕ → Bool
is_reserved w =
    bytes_eq w (codes "sum") || (bytes_eq w (codes "table") || (bytes_eq w (codes "element")
    || (bytes_eq w (codes "count") || (bytes_eq w (codes "differ") || bytes_eq w (codes "in")))))

unfoldable pub is_name : List ℕ → Bool
is_name w = nat_le (length w) MOST_NAME_BYTES && not (is_reserved w)

unfoldable pub name_at : List Lexeme → Reading (List ℕ)
name_at tokens = do
  w ← token_at Word tokens
  choose (is_name w.0) (Some w) None

unfoldable pub natural_at : List Lexeme → Reading ℕ
natural_at tokens = do
  digits ← token_at Digits tokens
  Some (digits_number digits.0, digits.1)

unfoldable pub integer_at : List Lexeme → Reading ℤ
integer_at tokens = when (mark_at (codes "-") tokens)
    (λ rest. do
      n ← natural_at rest
      Some (neg_ℤ (pos n.0), n.1))
    (do
      n ← natural_at tokens
      Some (pos n.0, n.1))

unfoldable pub op_of : List ℕ → Option Op
op_of text =
    choose (bytes_eq text (codes "=")) (Some Eq)
    (choose (bytes_eq text (codes "!=")) (Some Ne)
    (choose (bytes_eq text (codes "<")) (Some Lt)
    (choose (bytes_eq text (codes "<=")) (Some Le)
    (choose (bytes_eq text (codes ">")) (Some Gt)
    (choose (bytes_eq text (codes ">=")) (Some Ge)
    None)))))

unfoldable pub op_at : List Lexeme → Reading Op
op_at tokens = do
  text ← token_at Sign tokens
  op ← op_of text.0
  Some (op, text.1)
