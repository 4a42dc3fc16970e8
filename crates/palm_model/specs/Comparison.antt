-- Comparisons of a variable with another one and an offset, or with a value: scope, limits, parts, reason.
use Rattle.std.specs.Prelude.{ℕ, ℤ, ◌+ℤ◌, List, [], ◌∷◌, filter, nat_eq, if◌then◌else◌, ⊤}
use Rattle.palm_base.specs.declared.terms.Pair.{Pair}
use Rattle.palm_model.specs.Domains.{Assignment, Domains, values_of}
use Rattle.palm_model.specs.Limits.{IsUpTo}
use Rattle.palm_model.specs.Relation.{Stands, is_standing}
use Rattle.palm_model.specs.Removed.{pairs_of}
use Rattle.palm_model.specs.declared.constraint.Con.{Con}
use Rattle.palm_model.specs.declared.constraint.Con.TheVariants.{CompareVar, CompareConst, Linear, Table, Element, Count, Differ}
use Rattle.palm_model.specs.declared.constraint.Op.{Op}
use Rattle.palm_model.specs.declared.limits.TheConstants.{GREATEST_OFFSET}

-- a comparison, with a variable or with a value
abbrev pub IsComparison : Con → Type 0
IsComparison (CompareVar left op right offset) = ⊤
IsComparison (CompareConst left op value) = ⊤
IsComparison _ = ⊥

-- the variables of a comparison with a variable
abbrev pub comparison_scope : ℕ → ℕ → List ℕ
comparison_scope left right = left ∷ right ∷ []

-- an offset of the language
abbrev pub IsOffset : ℤ → Type 0
IsOffset offset = IsUpTo GREATEST_OFFSET offset

-- the comparison with a variable holds
abbrev pub HoldsCompareVar : ℕ → Op → ℕ → ℤ → Assignment → Type 0
HoldsCompareVar left op right offset a = Stands op (a left) (a right +ℤ offset)

-- the comparison with a value holds
abbrev pub HoldsCompareConst : ℕ → Op → ℤ → Assignment → Type 0
HoldsCompareConst var op value a = Stands op (a var) value

-- the declared values of the right variable that fit the value of the left one
abbrev pub fitting_right : Domains → Op → ℕ → ℤ → ℤ → List ℤ
fitting_right initial op right offset v = filter (λ w. is_standing op v (w +ℤ offset)) (values_of initial right)

-- the declared values of the left variable that fit the value of the right one
abbrev pub fitting_left : Domains → ℕ → Op → ℤ → ℤ → List ℤ
fitting_left initial left op offset v = filter (λ w. is_standing op w (v +ℤ offset)) (values_of initial left)

-- every declared value of the other variable that would fit
abbrev pub comparison_reason : Domains → ℕ → Op → ℕ → ℤ → ℕ → ℤ → List Pair
comparison_reason initial left op right offset x v =
    if nat_eq x left then pairs_of right (fitting_right initial op right offset v) else pairs_of left (fitting_left initial left op offset v)
