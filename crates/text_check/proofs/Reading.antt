-- What the reader answers to a line, and numbers that are too large for it.
use Rattle.std.proofs.Common.{◌≡◌, ℕ, ◌≤◌, Bool, true, false, Option, Some, None, Err, List, length, option_map, sym, subst, ap, ◌∙◌, arith}
use Rattle.std.proofs.lemmas.Int.{ints}
use Rattle.palm_read.specs.Linear.{signed}
use Rattle.palm_read.specs.Reading.{IsRead}
use Rattle.palm_read.specs.Token.{tokens_of}
use Rattle.palm_read.specs.Reader.Held.{GivesAll, HoldsAll}
use Rattle.palm_read.specs.declared.line.Line.{Line}
use Rattle.palm_read.specs.declared.line.Line.TheVariants.{Var, Add}
use Rattle.palm_read.specs.declared.mode.Mode.TheVariants.{Two}
use Rattle.palm_read.specs.declared.parse.LineError.{LineError}
use Rattle.palm_read.specs.declared.parse.LineError.TheVariants.{Form as NoForm}
use Rattle.palm_read.proofs.cited.SoundLines.{read_sound}
use Rattle.palm_claim.specs.Phrases.{ArePhrases, Phrases, Says, of_line, phrase_of}
use Rattle.palm_claim.specs.Reader.{is_value}
use Rattle.palm_claim.specs.declared.statement.Statement.{Statement}
use Rattle.palm_claim.specs.declared.statement.Statement.TheVariants.{Comment, Variable, Constraint, Phrase}
use Rattle.palm_claim.proofs.cited.Phrases.{is_value-value}
use Rattle.palm_claim.proofs.cited.Saying.{line_says, line_says_nothing, phrase_says}
use Rattle.text_check.specs.Reading.{IsSoundStatement, SaysOrNot}
use Rattle.text_check.specs.declared.statements.Reading.{Reading}

module _ {P : Type 0} (phrases : Phrases P) (are : ArePhrases phrases) where
  pub line_read : (bytes : List ℕ) (line : Line) (o : Option (Reading P)) → IsRead Two bytes line → option_map (λ (r : Reading P). r.statement) o ≡ of_line line → SaysOrNot phrases bytes o
  line_read bytes line None read e = line_says_nothing phrases are bytes line read (sym e)
  line_read bytes line (Some r) read e = line_says phrases are bytes line r.statement read (sym e)

  pub phrase_read : (bytes : List ℕ) (phrase : P) → length bytes ≤ 65536 → HoldsAll (λ t. t) phrase (phrase_of phrases.phrase_at (tokens_of bytes)) → Says phrases bytes (Phrase phrase)
  phrase_read bytes phrase short h = phrase_says phrases are bytes phrase short (h.read ∙ ap Some (sym h.is))

  -- what a line says keeps to the limits on numbers
  pub said_sound : (bytes : List ℕ) (s : Statement P) → Says phrases bytes s → IsSoundStatement phrases s
  said_sound bytes Comment h = tt
  said_sound bytes (Variable name domain) h = read_sound Two bytes (Var name domain) h
  said_sound bytes (Constraint name shape) h = read_sound Two bytes (Add name shape) h
  said_sound bytes (Phrase phrase) h = h.2

-- what a reader of all tokens read where it answers that no form is there
pub gives_none : {F X : Type 0} (view : F → X) (reading : Option F) (error : LineError) → error ≡ NoForm → GivesAll view (Err error) reading → reading ≡ None
gives_none view reading error is g = subst (λ (e : LineError). GivesAll view (Err e) reading) is g

-- a value of the language is not far from 0
pub signed_small : (minus : Bool) (n : ℕ) → is_value (signed minus n) ≡ true → n ≤ 1000000
signed_small true n e = let is = is_value-value (signed true n) e in omega (arith, ints, is.above)
signed_small false n e = let is = is_value-value (signed false n) e in omega (arith, ints, is.below)
