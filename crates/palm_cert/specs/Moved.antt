-- Constraints with other numbers for their variables, as a certificate has them, which declares the needed ones alone.
use Rattle.std.specs.Prelude.{ℕ, map}
use Rattle.palm_model.specs.declared.constraint.Con.{Con}
use Rattle.palm_model.specs.declared.constraint.Con.TheVariants.{CompareVar, CompareConst, Linear, Table, Element, Count, Differ, Within}
use Rattle.palm_model.specs.declared.constraint.Target.{Target}
use Rattle.palm_model.specs.declared.constraint.Target.TheVariants.{Const, Variable}
use Rattle.palm_model.specs.declared.constraint.Term.{Term}

abbrev pub moved_target : (ℕ → ℕ) → Target → Target
moved_target other (Const w) = Const w
moved_target other (Variable x) = Variable (other x)

abbrev pub moved_term : (ℕ → ℕ) → Term → Term
moved_term other t = record { factor = t.factor; var = other t.var }

-- the constraint with the other numbers
abbrev pub moved : (ℕ → ℕ) → Con → Con
moved other (CompareVar left op right offset) = CompareVar (other left) op (other right) offset
moved other (CompareConst left op value) = CompareConst (other left) op value
moved other (Linear terms op bound) = Linear (map (moved_term other) terms) op bound
moved other (Table vars rows) = Table (map other vars) rows
moved other (Element outcome index entries) = Element (other outcome) (other index) entries
moved other (Count value vars op target) = Count value (map other vars) op (moved_target other target)
moved other (Differ vars) = Differ (map other vars)
moved other (Within var values) = Within (other var) values
