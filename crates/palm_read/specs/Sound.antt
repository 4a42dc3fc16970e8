-- What every line that is read keeps to.
use Rattle.std.specs.Prelude.{◌<◌, length, All, ⊤}
use Rattle.palm_model.specs.Limits.{IsValue, IsUpTo}
use Rattle.palm_model.specs.Linear.{IsLinearOp}
use Rattle.palm_model.specs.Table.{IsRow}
use Rattle.palm_model.specs.declared.limits.TheConstants.{GREATEST_OFFSET, GREATEST_BOUND}
use Rattle.palm_read.specs.Count.{IsSoundTarget}
use Rattle.palm_read.specs.Differ.{IsProperDiffer}
use Rattle.palm_read.specs.Domain.{IsSoundDomain}
use Rattle.palm_read.specs.Limits.{names_of, Repeats}
use Rattle.palm_read.specs.Linear.{IsSoundTerm}
use Rattle.palm_read.specs.Name.{IsNameText}
use Rattle.palm_read.specs.declared.line.Line.{Line}
use Rattle.palm_read.specs.declared.line.Line.TheVariants.{Var, VarIn, Add}
use Rattle.palm_read.specs.declared.line.Shape.{Shape}
use Rattle.palm_read.specs.declared.line.Shape.TheVariants.{CompareVar, CompareConst, Linear, Table, Element, Count, Differ, Within}

-- the numbers of a constraint are within their limits, and its lists are not empty
abbrev pub IsSoundShape : Shape → Type 0
IsSoundShape (CompareVar left op right offset) = IsUpTo GREATEST_OFFSET offset
IsSoundShape (CompareConst left op value) = IsValue value
IsSoundShape (Linear terms op bound) = (0 < length terms) × All IsSoundTerm terms × IsLinearOp op × IsUpTo GREATEST_BOUND bound
IsSoundShape (Table vars rows) = (0 < length vars) × (0 < length rows) × All (IsRow (length vars)) rows
IsSoundShape (Element outcome index entries) = (0 < length entries) × All IsValue entries
IsSoundShape (Count value vars op target) = (0 < length vars) × IsValue value × IsSoundTarget target
IsSoundShape (Differ vars) = IsProperDiffer vars
IsSoundShape (Within var domain) = IsSoundDomain domain

-- the name is a name, and what it stands for is within the limits of numbers and repeats no variable
abbrev pub IsSound : Line → Type 0
IsSound (Var name domain) = IsNameText name × IsSoundDomain domain
IsSound (VarIn name universe domain) = IsNameText name × IsSoundDomain universe × IsSoundDomain domain
IsSound (Add name shape) = IsNameText name × (Repeats (names_of shape) → ⊥) × IsSoundShape shape
IsSound _ = ⊤
