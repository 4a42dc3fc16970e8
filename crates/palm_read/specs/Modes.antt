-- Which lines a mode allows: one grammar has the forms of both versions, and this table says which of them are of which.
use Rattle.std.specs.Prelude.{◌≡◌, ⊤}
use Rattle.palm_read.specs.declared.line.Line.{Line}
use Rattle.palm_read.specs.declared.line.Line.TheVariants.{Header, VarIn, Add, Prove, Minimize, Prefer, PreferNone, Preferred}
use Rattle.palm_read.specs.declared.line.Shape.{Shape}
use Rattle.palm_read.specs.declared.line.Shape.TheVariants.{Within}
use Rattle.palm_read.specs.declared.mode.Mode.{Mode}
use Rattle.palm_read.specs.declared.mode.Mode.TheVariants.{First, Two}

-- a constraint on a domain is of version 2
abbrev pub AllowsShape : Mode → Shape → Type 0
AllowsShape mode (Within var domain) = mode ≡ Two
AllowsShape mode _ = ⊤

-- the header is read in the first mode alone, a variable with a universe, a constraint on a domain, a search for a proof, one
-- for a least value, and what speaks of weights in version 2 alone, and all other lines in all modes
abbrev pub Allows : Mode → Line → Type 0
Allows mode Header = mode ≡ First
Allows mode (VarIn name universe domain) = mode ≡ Two
Allows mode (Add name shape) = AllowsShape mode shape
Allows mode (Prove budget) = mode ≡ Two
Allows mode (Minimize target budget) = mode ≡ Two
Allows mode (Prefer name weight) = mode ≡ Two
Allows mode (PreferNone name) = mode ≡ Two
Allows mode Preferred = mode ≡ Two
Allows mode _ = ⊤
