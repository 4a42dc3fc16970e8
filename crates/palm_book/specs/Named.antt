-- What names stand for: variables and declared pairs, constraints with the names of their variables, and what a constraint
-- says with names in place of variables.
use Rattle.std.specs.Prelude.{◌≡◌, ℕ, ℤ, ◌<◌, List, map, length, All, Any, Contains}
use Rattle.palm_base.specs.declared.terms.Pair.{Pair}
use Rattle.palm_model.specs.Constraint.{scope}
use Rattle.palm_model.specs.declared.constraint.Con.{Con}
use Rattle.palm_model.specs.declared.constraint.Con.TheVariants.{CompareVar as CompareVarCon, CompareConst as CompareConstCon, Linear as LinearCon, Table as TableCon, Element as ElementCon, Count as CountCon, Differ as DifferCon, Within as WithinCon}
use Rattle.palm_model.specs.declared.constraint.Target.{Target}
use Rattle.palm_model.specs.declared.constraint.Target.TheVariants.{Const, Variable}
use Rattle.palm_model.specs.declared.constraint.Term.{Term}
use Rattle.palm_read.specs.Domain.{values_in}
use Rattle.palm_read.specs.Interval.{domain_with}
use Rattle.palm_read.specs.declared.line.NameTarget.{NameTarget}
use Rattle.palm_read.specs.declared.line.NameTarget.TheVariants.{Const as ConstTarget, Variable as VariableTarget}
use Rattle.palm_read.specs.declared.line.NameTerm.{NameTerm}
use Rattle.palm_read.specs.declared.line.Shape.{Shape}
use Rattle.palm_read.specs.declared.line.Shape.TheVariants.{CompareVar, CompareConst, Linear, Table, Element, Count, Differ, Within}
use Rattle.palm_book.specs.Book.{BookVar, name_of}

abbrev pub named_target : List BookVar → Target → NameTarget
named_target variables (Const w) = ConstTarget w
named_target variables (Variable x) = VariableTarget (name_of variables x)

abbrev pub named_term : List BookVar → Term → NameTerm
named_term variables t = record { factor = t.factor; name = name_of variables t.var }

-- a constraint as a line says it, with the names of its variables
abbrev pub named : List BookVar → Con → Shape
named variables (CompareVarCon left op right offset) = CompareVar (name_of variables left) op (name_of variables right) offset
named variables (CompareConstCon left op value) = CompareConst (name_of variables left) op value
named variables (LinearCon terms op bound) = Linear (map (named_term variables) terms) op bound
named variables (TableCon vars rows) = Table (map (name_of variables) vars) rows
named variables (ElementCon outcome index entries) = Element (name_of variables outcome) (name_of variables index) entries
named variables (CountCon value vars op target) = Count value (map (name_of variables) vars) op (named_target variables target)
named variables (DifferCon vars) = Differ (map (name_of variables) vars)
named variables (WithinCon var values) = Within (name_of variables var) (domain_with values)

-- the shape with its domain as it is printed: two domains with the same values are one
abbrev pub plain : Shape → Shape
plain (Within var domain) = Within var (domain_with (values_in domain))
plain shape = shape

-- the variable has the name
pub record IsVariable (variables : List BookVar) (name : List ℕ) (x : ℕ) : Type 0 where
  pub declared : x < length variables
  pub named : name_of variables x ≡ name

-- the pair has the value, and its variable has the name
pub record IsPair (variables : List BookVar) (name : List ℕ) (value : ℤ) (pair : Pair) : Type 0 where
  pub variable : IsVariable variables name pair.var
  pub gives : pair.value ≡ value

-- the variable with the name was declared with the value
abbrev pub IsDeclared : List BookVar → List ℕ → ℤ → Type 0
IsDeclared variables name value = Any (λ e. (e.name ≡ name) × Contains e.values value) variables

-- no variable has the name
abbrev pub IsUnknownName : List BookVar → List ℕ → Type 0
IsUnknownName variables name = Any (λ e. e.name ≡ name) variables → ⊥

-- the constraint says what the shape says, of the variables with these names, however the shape writes its domain
pub record Resolves (variables : List BookVar) (shape : Shape) (con : Con) : Type 0 where
  pub declared : All (λ x. x < length variables) (scope con)
  pub says : named variables con ≡ plain shape
