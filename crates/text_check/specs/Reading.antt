-- What the reader answers to a line.
use Rattle.std.specs.Prelude.{ℕ, Option, Some, None, List, ⊤}
use Rattle.palm_claim.specs.Phrases.{Phrases, Says}
use Rattle.palm_claim.specs.declared.statement.Statement.{Statement}
use Rattle.palm_claim.specs.declared.statement.Statement.TheVariants.{Comment, Variable, Constraint, Phrase}
use Rattle.palm_read.specs.Limits.{IsBeyond}
use Rattle.palm_read.specs.Sound.{IsSound}
use Rattle.palm_read.specs.declared.line.Line.TheVariants.{Var, Add}
use Rattle.text_check.specs.declared.statements.Reading.{Reading}

-- what every statement that a line says keeps to
abbrev pub IsSoundStatement : {P : Type 0} → Phrases P → Statement P → Type 0
IsSoundStatement phrases Comment = ⊤
IsSoundStatement phrases (Variable name domain) = IsSound (Var name domain)
IsSoundStatement phrases (Constraint name shape) = IsSound (Add name shape)
IsSoundStatement phrases (Phrase phrase) = phrases.AreInRange phrase

-- the statement breaks a limit by itself
abbrev pub IsBeyondAlone : {P : Type 0} → Statement P → Type 0
IsBeyondAlone Comment = ⊥
IsBeyondAlone (Variable name domain) = IsBeyond (Var name domain)
IsBeyondAlone (Constraint name shape) = IsBeyond (Add name shape)
IsBeyondAlone (Phrase phrase) = ⊥

-- what a line says, if anything
abbrev pub SaysOrNot : {P : Type 0} → Phrases P → List ℕ → Option (Reading P) → Type 0
SaysOrNot {P = P} phrases line None = (s : Statement P) → Says phrases line s → ⊥
SaysOrNot phrases line (Some reading) = Says phrases line reading.statement
