-- What the words after the program's name ask for.
use Rattle.std.specs.Prelude.{◌≡◌, ◌⊎◌, ◌≤◌, ⊤, ℕ, List, [], ◌∷◌, codes, Option, Some, None}
use Rattle.palm_cli.specs.Generator.{IsSize}
use Rattle.palm_cli.specs.declared.limits.TheConstants.{MOST_QUEENS}
use Rattle.palm_cli.specs.declared.words.Evidence.{Evidence}
use Rattle.palm_cli.specs.declared.words.Evidence.TheVariants.{Certificate, Proof}
use Rattle.palm_cli.specs.declared.words.Request.{Request}
use Rattle.palm_cli.specs.declared.words.Request.TheVariants.{Run, Judge, Gen}

-- the words are those of the command `run`
abbrev pub IsRun : List (List ℕ) → Type 0
IsRun words = words ≡ codes "run" ∷ []

-- the word of the command that judges a text as this
abbrev pub word_of : Evidence → List ℕ
word_of Certificate = codes "check"
word_of Proof = codes "proof"

-- the words are those of the command that judges a text as this
abbrev pub IsJudge : List (List ℕ) → Evidence → Type 0
IsJudge words evidence = words ≡ word_of evidence ∷ []

-- the words are those of the command `gen` with so many queens
pub record IsGen (words : List (List ℕ)) (size : ℕ) : Type 0 where
  pub word : List ℕ
  pub whole : words ≡ codes "gen" ∷ word ∷ []
  pub tells : IsSize word size

-- the words are those of no command
pub record IsNoCommand (words : List (List ℕ)) : Type 0 where
  pub no_run : IsRun words → ⊥
  pub no_judge : (evidence : Evidence) → IsJudge words evidence → ⊥
  pub no_gen : (size : ℕ) → IsGen words size → ⊥

-- the words ask for this, or for nothing
abbrev pub Asks : List (List ℕ) → Option Request → Type 0
Asks words None = IsNoCommand words
Asks words (Some Run) = IsRun words
Asks words (Some (Judge evidence)) = IsJudge words evidence
Asks words (Some (Gen size)) = IsGen words size

-- no more queens are asked for than may be
abbrev pub IsFit : Option Request → Type 0
IsFit (Some (Gen size)) = (1 ≤ size) × (size ≤ MOST_QUEENS)
IsFit _ = ⊤

abbrev pub BeginsWithDash : List ℕ → Type 0
BeginsWithDash [] = ⊥
BeginsWithDash (b ∷ bytes) = b ≡ 45

-- a word that no command has, and at which `clap` would do something of its own
abbrev pub IsApart : List ℕ → Type 0
IsApart word = BeginsWithDash word ⊎ (word ≡ codes "help")
