-- Counts of the variables that have a value, compared with a target: scope, limits, parts, reason.
use Rattle.std.specs.Prelude.{ℕ, zero, suc, ℤ, pos, ◌+◌, ◌-◌, ◌<◌, List, [], ◌∷◌, ◌++◌, length, filter, flat_map, Bool, true, false, ◌||◌, nat_eq, if◌then◌else◌, ⊤}
use Rattle.std.specs.Ordering.{int_eq}
use Rattle.palm_base.specs.declared.terms.Pair.{Pair}
use Rattle.palm_model.specs.Domains.{Assignment, Domains, values_of}
use Rattle.palm_model.specs.Limits.{IsValue}
use Rattle.palm_model.specs.Relation.{Stands, is_standing}
use Rattle.palm_model.specs.Removed.{is_alone, is_listed, others, pairs_of, removed_values}
use Rattle.palm_model.specs.declared.constraint.Con.{Con}
use Rattle.palm_model.specs.declared.constraint.Con.TheVariants.{CompareVar, CompareConst, Linear, Table, Element, Count, Differ}
use Rattle.palm_model.specs.declared.constraint.Op.{Op}
use Rattle.palm_model.specs.declared.constraint.Op.TheVariants.{Eq, Ne, Lt, Le, Gt, Ge}
use Rattle.palm_model.specs.declared.constraint.Target.{Target}
use Rattle.palm_model.specs.declared.constraint.Target.TheVariants.{Const, Variable}

-- a count
abbrev pub IsCount : Con → Type 0
IsCount (Count value vars op target) = ⊤
IsCount _ = ⊥

-- the target's variable, if it is one
abbrev pub target_scope : Target → List ℕ
target_scope (Const w) = []
target_scope (Variable x) = x ∷ []

-- the counted variables, then the target's
abbrev pub count_scope : List ℕ → Target → List ℕ
count_scope vars target = vars ++ target_scope target

-- the target's number is a value of the language
abbrev pub IsTarget : Target → Type 0
IsTarget (Const w) = IsValue w
IsTarget (Variable x) = ⊤

-- some variables are counted, and the numbers are values of the language
abbrev pub IsCountShaped : ℤ → List ℕ → Target → Type 0
IsCountShaped value vars target = (0 < length vars) × IsValue value × IsTarget target

-- how many of the variables have the value
abbrev pub count_among : Assignment → ℤ → List ℕ → ℕ
count_among a value vars = length (filter (λ x. int_eq (a x) value) vars)

-- the number that the target stands for
abbrev pub target_of : Assignment → Target → ℤ
target_of a (Const w) = w
target_of a (Variable x) = a x

-- the count stands in the relation to the target
abbrev pub HoldsCount : ℤ → List ℕ → Op → Target → Assignment → Type 0
HoldsCount value vars op target a = Stands op (pos (count_among a value vars)) (target_of a target)

-- whether a number can be too high because a variable has no other value
abbrev pub needs_low : Op → Bool
needs_low Eq = true
needs_low Ne = true
needs_low Lt = true
needs_low Le = true
needs_low Gt = false
needs_low Ge = false

-- whether a number can be too low because a variable lacks the value
abbrev pub needs_high : Op → Bool
needs_high Eq = true
needs_high Ne = true
needs_high Lt = false
needs_high Le = false
needs_high Gt = true
needs_high Ge = true

-- all removed pairs of a variable whose only value is the counted one
abbrev pub low_pairs : Domains → Domains → ℤ → ℕ → List Pair
low_pairs initial present value y = if is_alone (values_of present y) value then pairs_of y (removed_values initial present y) else []

-- the counted value of a variable that lacks it, where it is declared
abbrev pub high_pairs : Domains → Domains → ℤ → ℕ → List Pair
high_pairs initial present value y =
    if is_listed (values_of present y) value then [] else pairs_of y (filter (λ w. int_eq w value) (values_of initial y))

-- the low and the high pairs of a variable, as the relation needs them
abbrev pub counted_pairs : Domains → Domains → ℤ → Op → ℕ → List Pair
counted_pairs initial present value op y =
    (if needs_low op then low_pairs initial present value y else []) ++ (if needs_high op then high_pairs initial present value y else [])

-- how many of the variables have no other value
abbrev pub least_count : Domains → ℤ → List ℕ → ℕ
least_count d value vars = length (filter (λ y. is_alone (values_of d y) value) vars)

-- how many of the variables have the value
abbrev pub greatest_count : Domains → ℤ → List ℕ → ℕ
greatest_count d value vars = length (filter (λ y. is_listed (values_of d y) value) vars)

-- 1 where x itself has the counted value
abbrev pub own_count : ℤ → ℤ → ℕ
own_count value v = if int_eq v value then 1 else 0

-- whether a number from low to low + more stands in the relation to w
abbrev pub is_within_counts : ℕ → ℕ → Op → ℤ → Bool
is_within_counts low zero op w = is_standing op (pos low) w
is_within_counts low (suc more) op w = is_standing op (pos low) w || is_within_counts (suc low) more op w

-- whether some count, where x has the value v, stands in the relation to w
abbrev pub is_target_fit : Domains → ℤ → List ℕ → Op → ℕ → ℤ → ℤ → Bool
is_target_fit d value vars op x v w =
    is_within_counts (least_count d value (others vars x) + own_count value v) (greatest_count d value (others vars x) - least_count d value (others vars x)) op w

-- the declared values of the target that would fit, where the target is a variable
abbrev pub target_pairs : Domains → Domains → ℤ → List ℕ → Op → Target → ℕ → ℤ → List Pair
target_pairs initial present value vars op (Const w) x v = []
target_pairs initial present value vars op (Variable y) x v =
    if nat_eq y x then [] else pairs_of y (filter (λ w. is_target_fit present value vars op x v w) (values_of initial y))

-- the pairs of the other counted variables, and the values of the target that would fit a counted variable's value
abbrev pub count_reason : Domains → Domains → ℤ → List ℕ → Op → Target → ℕ → ℤ → List Pair
count_reason initial present value vars op target x v =
    flat_map (counted_pairs initial present value op) (others vars x) ++ target_pairs initial present value vars op target x v
