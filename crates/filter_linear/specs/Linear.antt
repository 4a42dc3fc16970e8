-- The constraint of a sum: what it can be at least and at most where one variable has its value, and the removed values
-- beyond the present ones.
use Rattle.std.specs.Prelude.{◌≡◌, ℕ, ℤ, pos, ◌*ℤ◌, ◌<◌, ◌<ℤ◌, ◌≤ℤ◌, ◌⊎◌, List, All, length, nat_eq, if◌then◌else◌}
use Rattle.palm_base.specs.declared.terms.Pair.{Pair}
use Rattle.palm_model.specs.Limits.{IsUpTo}
use Rattle.palm_model.specs.Domains.{Domains, values_of}
use Rattle.palm_model.specs.Linear.{least_of, greatest_of, products, least_total, greatest_total, values_below, values_above, at_most_reason, at_least_reason}
use Rattle.palm_model.specs.declared.limits.TheConstants.{GREATEST_PRODUCT}
use Rattle.palm_model.specs.declared.constraint.Con.{Con}
use Rattle.palm_model.specs.declared.constraint.Con.TheVariants.{Linear}
use Rattle.palm_model.specs.declared.constraint.Op.{Op}
use Rattle.palm_model.specs.declared.constraint.Op.TheVariants.{Eq, Ne, Lt, Le, Gt, Ge}
use Rattle.palm_model.specs.declared.constraint.Term.{Term}
use Rattle.filter_linear.specs.declared.end.End.{End}
use Rattle.filter_linear.specs.declared.end.End.TheVariants.{Least, Greatest}
use Rattle.filter_linear.specs.declared.reasons.Side.{Side}
use Rattle.filter_linear.specs.declared.reasons.Side.TheVariants.{Below, Above}
use Rattle.filter_linear.specs.declared.span.Span.{Span}
use Rattle.filter_linear.specs.declared.rule.LinearRule.{LinearRule}

abbrev pub linear_of : LinearRule → Con
linear_of s = Linear s.terms s.op s.bound

-- ---- what a sum can be

-- the least and the greatest that a term can be where x has the value v
abbrev pub least_share : Domains → ℕ → ℤ → Term → ℤ
least_share d x v t = if nat_eq t.var x then t.factor *ℤ v else least_of (products d t)

abbrev pub greatest_share : Domains → ℕ → ℤ → Term → ℤ
greatest_share d x v t = if nat_eq t.var x then t.factor *ℤ v else greatest_of (products d t)

-- a coefficient of the language times a value
abbrev pub IsProduct : ℤ → Type 0
IsProduct n = IsUpTo GREATEST_PRODUCT n

-- what the term can be, and its variable has some value
pub record IsTermSpan (d : Domains) (t : Term) (s : Span) : Type 0 where
  pub least : s.least ≡ least_of (products d t)
  pub greatest : s.greatest ≡ greatest_of (products d t)
  pub filled : 0 < length (values_of d t.var)
  pub least_small : IsProduct s.least
  pub greatest_small : IsProduct s.greatest

-- the term's variable is x or has some value
abbrev pub IsFilledBeside : Domains → ℕ → Term → Type 0
IsFilledBeside d x t = (t.var ≡ x → ⊥) → 0 < length (values_of d t.var)

-- what the term can be where x has the value v, and its variable is x or has some value
pub record IsShare (d : Domains) (x : ℕ) (v : ℤ) (t : Term) (s : Span) : Type 0 where
  pub least : s.least ≡ least_share d x v t
  pub greatest : s.greatest ≡ greatest_share d x v t
  pub filled : IsFilledBeside d x t
  pub least_small : IsProduct s.least
  pub greatest_small : IsProduct s.greatest

-- what the sum can be where x has the value v, and every other variable has some value
pub record IsSpan (d : Domains) (terms : List Term) (x : ℕ) (v : ℤ) (s : Span) : Type 0 where
  pub least : s.least ≡ least_total d terms x v
  pub greatest : s.greatest ≡ greatest_total d terms x v
  pub filled : All (IsFilledBeside d x) terms

-- a sum within the span can stand in the relation to the bound; where it is to be equal, at most and at least each by
-- itself
abbrev pub IsMetWithin : Op → ℤ → Span → Type 0
IsMetWithin Eq bound s = (s.least ≤ℤ bound) × (bound ≤ℤ s.greatest)
IsMetWithin Ne bound s = s.least ≡ bound → s.greatest ≡ bound → ⊥
IsMetWithin Lt bound s = s.least <ℤ bound
IsMetWithin Le bound s = s.least ≤ℤ bound
IsMetWithin Gt bound s = bound <ℤ s.greatest
IsMetWithin Ge bound s = bound ≤ℤ s.greatest

-- ---- one end of what a sum can be

-- the end of the numbers
abbrev pub end_of : End → List ℤ → ℤ
end_of Least ns = least_of ns
end_of Greatest ns = greatest_of ns

-- the end of what a term can be where x has the value v
abbrev pub end_share : End → Domains → ℕ → ℤ → Term → ℤ
end_share Least d x v t = least_share d x v t
end_share Greatest d x v t = greatest_share d x v t

-- the end of what the sum can be where x has the value v
abbrev pub end_total : End → Domains → List Term → ℕ → ℤ → ℤ
end_total Least d terms x v = least_total d terms x v
end_total Greatest d terms x v = greatest_total d terms x v

-- the end of what the term can be, and its variable has some value
pub record IsTermEnd (end : End) (d : Domains) (t : Term) (n : ℤ) : Type 0 where
  pub is : n ≡ end_of end (products d t)
  pub filled : 0 < length (values_of d t.var)
  pub small : IsProduct n

-- the end of what the term can be where x has the value v, and its variable is x or has some value
pub record IsShareEnd (end : End) (d : Domains) (x : ℕ) (v : ℤ) (t : Term) (n : ℤ) : Type 0 where
  pub is : n ≡ end_share end d x v t
  pub filled : IsFilledBeside d x t
  pub small : IsProduct n

-- the end of what the sum can be where x has the value v, and every other variable has some value
pub record IsEnd (end : End) (d : Domains) (terms : List Term) (x : ℕ) (v : ℤ) (n : ℤ) : Type 0 where
  pub is : n ≡ end_total end d terms x v
  pub filled : All (IsFilledBeside d x) terms

-- the relation looks at this end alone
abbrev pub IsMetAt : Op → End → Type 0
IsMetAt op Least = (op ≡ Lt) ⊎ (op ≡ Le)
IsMetAt op Greatest = (op ≡ Gt) ⊎ (op ≡ Ge)

-- all that the sum can be where x has the value v
abbrev pub span_of : Domains → List Term → ℕ → ℤ → Span
span_of d terms x v = record { least = least_total d terms x v; greatest = greatest_total d terms x v }

-- every other variable than x has some value, and the sum can stand in the relation to the bound where x has the value v
pub record CanBeMet (d : Domains) (rule : LinearRule) (x : ℕ) (v : ℤ) : Type 0 where
  pub filled : All (IsFilledBeside d x) rule.terms
  pub met : IsMetWithin rule.op rule.bound (span_of d rule.terms x v)

-- ---- removed values beyond the present ones

-- the products on this side are those of the low values: they rise with the values where the factor is positive, and fall
-- where it is negative
abbrev pub IsOfLow : Side → ℤ → Type 0
IsOfLow Below factor = pos 0 <ℤ factor
IsOfLow Above factor = factor <ℤ pos 0

-- the removed values of a term's variable whose products are on this side of those of all present values
abbrev pub values_beyond : Side → Domains → Domains → Term → List ℤ
values_beyond Below initial present t = values_below initial present t
values_beyond Above initial present t = values_above initial present t

-- why the sum cannot be as low or as high as it is to be
abbrev pub beyond_reason : Side → Domains → Domains → List Term → ℕ → List Pair
beyond_reason Below initial present terms x = at_most_reason initial present terms x
beyond_reason Above initial present terms x = at_least_reason initial present terms x
