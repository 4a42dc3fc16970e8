-- Linear constraints, which compare a sum of variables with coefficients: scope, limits, parts, reason.
use Rattle.std.specs.Prelude.{◌≢◌, ℕ, ℤ, pos, ◌+ℤ◌, ◌*ℤ◌, List, [], ◌∷◌, map, filter, flat_map, fold, All, not, nat_eq, int_lt, if◌then◌else◌, ⊤}
use Rattle.std.specs.Int.{int_min, int_max}
use Rattle.palm_base.specs.declared.terms.Pair.{Pair}
use Rattle.palm_model.specs.Domains.{Assignment, Domains, values_of}
use Rattle.palm_model.specs.Limits.{IsUpTo}
use Rattle.palm_model.specs.Relation.{Stands}
use Rattle.palm_model.specs.Removed.{others, pairs_of, removed_pairs, removed_values}
use Rattle.palm_model.specs.declared.constraint.Con.{Con}
use Rattle.palm_model.specs.declared.constraint.Con.TheVariants.{CompareVar, CompareConst, Linear, Table, Element, Count, Differ}
use Rattle.palm_model.specs.declared.constraint.Op.{Op}
use Rattle.palm_model.specs.declared.constraint.Op.TheVariants.{Eq, Ne, Lt, Le, Gt, Ge}
use Rattle.palm_model.specs.declared.constraint.Term.{Term}
use Rattle.palm_model.specs.declared.limits.TheConstants.{GREATEST_BOUND, GREATEST_FACTOR}
use Rattle.palm_model.specs.declared.part.Part.{Part}
use Rattle.palm_model.specs.declared.part.Part.TheVariants.{Linear as LinearPart}

-- a linear constraint
abbrev pub IsLinear : Con → Type 0
IsLinear (Linear terms op bound) = ⊤
IsLinear _ = ⊥

-- the variables of the terms
abbrev pub term_vars : List Term → List ℕ
term_vars terms = map (λ t. t.var) terms

-- a coefficient of the language
abbrev pub IsFactor : Term → Type 0
IsFactor t = (t.factor ≢ pos 0) × IsUpTo GREATEST_FACTOR t.factor

-- a relation of linear constraints
abbrev pub IsLinearOp : Op → Type 0
IsLinearOp op = (op ≢ Lt) × (op ≢ Gt)

-- the coefficients, the relation and the bound are of the language
abbrev pub IsLinearShaped : List Term → Op → ℤ → Type 0
IsLinearShaped terms op bound = All IsFactor terms × IsLinearOp op × IsUpTo GREATEST_BOUND bound

-- the sum of the terms
abbrev pub total : Assignment → List Term → ℤ
total a [] = pos 0
total a (t ∷ ts) = (t.factor *ℤ a t.var) +ℤ total a ts

-- the sum stands in the relation to the bound
abbrev pub HoldsLinear : List Term → Op → ℤ → Assignment → Type 0
HoldsLinear terms op bound a = Stands op (total a terms) bound

-- a sum that is equal to the bound is at most the bound and at least the bound
abbrev pub linear_parts : List Term → Op → ℤ → List Part
linear_parts terms Eq bound = LinearPart terms Le bound ∷ LinearPart terms Ge bound ∷ []
linear_parts terms Ne bound = LinearPart terms Ne bound ∷ []
linear_parts terms Lt bound = LinearPart terms Lt bound ∷ []
linear_parts terms Le bound = LinearPart terms Le bound ∷ []
linear_parts terms Gt bound = LinearPart terms Gt bound ∷ []
linear_parts terms Ge bound = LinearPart terms Ge bound ∷ []

-- the least of the numbers, and 0 where there is none
abbrev pub least_of : List ℤ → ℤ
least_of [] = pos 0
least_of (n ∷ ns) = fold int_min n ns

-- the greatest of the numbers, and 0 where there is none
abbrev pub greatest_of : List ℤ → ℤ
greatest_of [] = pos 0
greatest_of (n ∷ ns) = fold int_max n ns

-- what a term can be, over the values of its variable
abbrev pub products : Domains → Term → List ℤ
products d t = map (λ v. t.factor *ℤ v) (values_of d t.var)

-- the terms of the variables other than x
abbrev pub other_terms : List Term → ℕ → List Term
other_terms terms x = filter (λ t. not (nat_eq t.var x)) terms

-- the least that the sum can be where x has the value v
abbrev pub least_total : Domains → List Term → ℕ → ℤ → ℤ
least_total d [] x v = pos 0
least_total d (t ∷ ts) x v = (if nat_eq t.var x then t.factor *ℤ v else least_of (products d t)) +ℤ least_total d ts x v

-- the greatest that the sum can be where x has the value v
abbrev pub greatest_total : Domains → List Term → ℕ → ℤ → ℤ
greatest_total d [] x v = pos 0
greatest_total d (t ∷ ts) x v = (if nat_eq t.var x then t.factor *ℤ v else greatest_of (products d t)) +ℤ greatest_total d ts x v

-- the removed values of a term's variable whose products are below those of all present values
abbrev pub values_below : Domains → Domains → Term → List ℤ
values_below initial present t = filter (λ w. int_lt (t.factor *ℤ w) (least_of (products present t))) (removed_values initial present t.var)

-- the removed values of a term's variable whose products are above those of all present values
abbrev pub values_above : Domains → Domains → Term → List ℤ
values_above initial present t = filter (λ w. int_lt (greatest_of (products present t)) (t.factor *ℤ w)) (removed_values initial present t.var)

-- why the sum cannot be at most the bound
abbrev pub at_most_reason : Domains → Domains → List Term → ℕ → List Pair
at_most_reason initial present terms x = flat_map (λ t. pairs_of t.var (values_below initial present t)) (other_terms terms x)

-- why the sum cannot be at least the bound
abbrev pub at_least_reason : Domains → Domains → List Term → ℕ → List Pair
at_least_reason initial present terms x = flat_map (λ t. pairs_of t.var (values_above initial present t)) (other_terms terms x)

-- of a sum that is equal to the bound one of the two parts fails
abbrev pub linear_reason : Domains → Domains → List Term → Op → ℤ → ℕ → ℤ → List Pair
linear_reason initial present terms Eq bound x v =
    if int_lt bound (least_total present terms x v) then at_most_reason initial present terms x else at_least_reason initial present terms x
linear_reason initial present terms Ne bound x v = removed_pairs initial present (others (term_vars terms) x)
linear_reason initial present terms Lt bound x v = at_most_reason initial present terms x
linear_reason initial present terms Le bound x v = at_most_reason initial present terms x
linear_reason initial present terms Gt bound x v = at_least_reason initial present terms x
linear_reason initial present terms Ge bound x v = at_least_reason initial present terms x
