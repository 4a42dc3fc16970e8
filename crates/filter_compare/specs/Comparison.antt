-- The constraint of a comparison, and what it asks of one variable where the other one has a value.
use Rattle.std.specs.Prelude.{◌≡◌, ℕ, ℤ, ◌+ℤ◌, ◌-ℤ◌, List, Contains, filter, nat_eq, if◌then◌else◌}
use Rattle.palm_filter.specs.Rules.{declared_passing, written}
use Rattle.palm_filter.specs.declared.rule.Interval.{Interval}
use Rattle.palm_filter.specs.declared.rule.Rule.{Rule}
use Rattle.palm_model.specs.Domains.{Domains}
use Rattle.palm_model.specs.Relation.{Stands, is_standing}
use Rattle.palm_model.specs.declared.constraint.Con.{Con}
use Rattle.palm_model.specs.declared.constraint.Con.TheVariants.{CompareVar, CompareConst}
use Rattle.palm_model.specs.declared.constraint.Op.{Op}
use Rattle.palm_model.specs.declared.constraint.Op.TheVariants.{Eq, Ne, Lt, Le, Gt, Ge}
use Rattle.filter_compare.specs.declared.compare.Comparison.{Comparison}
use Rattle.filter_compare.specs.declared.compare.Comparison.TheVariants.{Variables, Constant}
use Rattle.filter_compare.specs.declared.compare.VarComparison.{VarComparison}
use Rattle.filter_compare.specs.declared.demand.Demand.{Demand}

abbrev pub comparison_of : Comparison → Con
comparison_of (Variables c) = CompareVar c.left c.op c.right c.offset
comparison_of (Constant d) = CompareConst d.var d.op d.bound

-- the relation, seen from its other side
abbrev pub flipped_of : Op → Op
flipped_of Eq = Eq
flipped_of Ne = Ne
flipped_of Lt = Gt
flipped_of Le = Ge
flipped_of Gt = Lt
flipped_of Ge = Le

-- what the comparison asks of the other variable where x has the value v
abbrev pub demand_of : VarComparison → ℕ → ℤ → Demand
demand_of c x v =
    if nat_eq x c.left then record { var = c.right; op = flipped_of c.op; bound = v -ℤ c.offset } else record { var = c.left; op = c.op; bound = v +ℤ c.offset }

-- one of the values meets the demand
pub record IsMet (vs : List ℤ) (d : Demand) : Type 0 where
  pub value : ℤ
  pub member : Contains vs value
  pub stands : Stands d.op value d.bound

-- the values that meet the demand
abbrev pub meeting_values : List ℤ → Demand → List ℤ
meeting_values vs d = filter (λ w. is_standing d.op w d.bound) vs

-- written out, the rule gives the declared values of y that stand in the relation to the value plus the number
abbrev pub IsRuleOf : ℕ → Op → ℤ → Rule → Type 0
IsRuleOf y op by rule =
    (initial : Domains) (c : Con) (intervals : List Interval) (x : ℕ) (v : ℤ) → written initial c rule intervals x v ≡ declared_passing initial y (λ w. is_standing op w (v +ℤ by))
