-- What lines say in texts that list variables and constraints as a session of version 2 does, and say all else in phrases of
-- their own. Certificates and proofs are such texts.
use Rattle.std.specs.Prelude.{◌≡◌, ℕ, Bool, true, false, Option, Some, None, List, [], ◌∷◌, codes}
use Rattle.palm_read.specs.Bytes.{IsComment, IsPlain}
use Rattle.palm_read.specs.Piece.{Piece, Keyword, Mark, Numeral, Spells, numeral, sign, word}
use Rattle.palm_read.specs.Reader.Lines.{form_at}
use Rattle.palm_read.specs.Reader.Steps.{Reading, ◌>>=◌, choose, is_empty}
use Rattle.palm_read.specs.Reading.{IsRead}
use Rattle.palm_read.specs.Token.{Lexeme, tokens_of}
use Rattle.palm_read.specs.declared.line.Line.{Line}
use Rattle.palm_read.specs.declared.line.Line.TheVariants.{Comment as CommentLine, Var, Add}
use Rattle.palm_read.specs.declared.mode.Mode.TheVariants.{Two}
use Rattle.palm_claim.specs.declared.statement.Statement.{Statement}
use Rattle.palm_claim.specs.declared.statement.Statement.TheVariants.{Comment, Variable, Constraint, Phrase}

-- the phrases of such texts: what is read of one in front of tokens, which pieces one is written with, and whether its numbers
-- are in their ranges
pub record Phrases (P : Type 0) : Type 1 where
  pub phrase_at : List Lexeme → Reading P
  pub pieces : P → List Piece
  pub AreInRange : P → Type 0

-- the header of a text of this kind: "palm" "-", the kind and "1", the last without leading zeros
abbrev pub header_pieces : List ℕ → List Piece
header_pieces kind = Keyword (codes "palm") ∷ Mark (codes "-") ∷ Keyword kind ∷ Numeral (codes "1") ∷ []

abbrev pub header_of : List ℕ → List Lexeme
header_of kind = word (codes "palm") ∷ sign (codes "-") ∷ word kind ∷ numeral (codes "1") ∷ []

-- what a line says
abbrev pub Says : {P : Type 0} → Phrases P → List ℕ → Statement P → Type 0
Says phrases line Comment = IsComment line
Says phrases line (Variable name domain) = IsRead Two line (Var name domain)
Says phrases line (Constraint name shape) = IsRead Two line (Add name shape)
Says phrases line (Phrase phrase) = IsPlain line × Spells (tokens_of line) (phrases.pieces phrase) × phrases.AreInRange phrase

-- ---- how it is read

-- what a line of a session says there, if anything
abbrev pub of_line : {P : Type 0} → Line → Option (Statement P)
of_line CommentLine = Some Comment
of_line (Var name domain) = Some (Variable name domain)
of_line (Add name shape) = Some (Constraint name shape)
of_line _ = None

-- the phrase of all tokens of a line
unfoldable pub phrase_of : {P : Type 0} → (List Lexeme → Reading P) → List Lexeme → Option P
phrase_of phrase_at tokens = do
  phrase ← phrase_at tokens
  choose (is_empty phrase.1) (Some phrase.0) None

-- a word of the language stands in front
abbrev pub is_worded : List Piece → Bool
is_worded (Keyword w ∷ ps) = true
is_worded ps = false

-- phrases are read as they are spelled, begin with words, and none is a form of a session
pub record ArePhrases {P : Type 0} (phrases : Phrases P) : Type 0 where
  pub takes : (tokens : List Lexeme) (x : P × List Lexeme) → phrases.phrase_at tokens ≡ Some x → is_empty x.1 ≡ true
      → Spells tokens (phrases.pieces x.0) × phrases.AreInRange x.0
  pub again : (tokens : List Lexeme) (phrase : P) → Spells tokens (phrases.pieces phrase) → phrases.AreInRange phrase
      → phrase_of phrases.phrase_at tokens ≡ Some phrase
  pub worded : (phrase : P) → is_worded (phrases.pieces phrase) ≡ true
  pub no_form : (tokens : List Lexeme) (phrase : P) → Spells tokens (phrases.pieces phrase) → form_at tokens ≡ None
