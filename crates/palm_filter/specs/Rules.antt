-- The reasons of a value by a rule: by the constraint, the declared values and the value alone.
use Rattle.std.specs.Prelude.{◌≡◌, ℕ, ℤ, Bool, not, ◌+ℤ◌, ◌≤ℤ◌, List, [], take, drop, filter, flat_map, int_lt}
use Rattle.std.specs.Ordering.{int_eq}
use Rattle.palm_base.specs.declared.terms.Pair.{Pair}
use Rattle.palm_model.specs.Domains.{Domains, values_of}
use Rattle.palm_model.specs.Reason.{WantsReason, reason}
use Rattle.palm_model.specs.Removed.{pairs_of}
use Rattle.palm_model.specs.declared.constraint.Con.{Con}
use Rattle.palm_filter.specs.declared.rule.Interval.{Interval}
use Rattle.palm_filter.specs.declared.rule.Known.{Known}
use Rattle.palm_filter.specs.declared.rule.Rule.{Rule}
use Rattle.palm_filter.specs.declared.rule.Rule.TheVariants.{Empty, Above, Below, At, Other, Listed}

-- the declared values of y that pass the test, as pairs
abbrev pub declared_passing : Domains → ℕ → (ℤ → Bool) → List Pair
declared_passing initial y test = pairs_of y (filter test (values_of initial y))

-- the declared pairs of an interval
abbrev pub interval_pairs : Domains → Interval → List Pair
interval_pairs initial i = pairs_of i.var (drop i.first (take i.end (values_of initial i.var)))

-- those of several, one after another
abbrev pub listed_pairs : Domains → List Interval → List Pair
listed_pairs initial intervals = flat_map (λ i. interval_pairs initial i) intervals

-- the reasons of the value v of x by the constraint, written out
abbrev pub written : Domains → Con → Rule → List Interval → ℕ → ℤ → List Pair
written initial c Empty intervals x v = []
written initial c (Above s) intervals x v = declared_passing initial s.var (λ w. not (int_lt w (v +ℤ s.by)))
written initial c (Below s) intervals x v = declared_passing initial s.var (λ w. not (int_lt (v +ℤ s.by) w))
written initial c (At s) intervals x v = declared_passing initial s.var (λ w. int_eq w (v +ℤ s.by))
written initial c (Other s) intervals x v = declared_passing initial s.var (λ w. not (int_eq w (v +ℤ s.by)))
written initial c Listed intervals x v = listed_pairs initial intervals

-- written out, the rule is the reason of each value of x, whatever the domains are
abbrev pub FitsAlways : Con → ℕ → Rule → Type 0
FitsAlways c x rule = (initial present : Domains) (intervals : List Interval) (v : ℤ) → written initial c rule intervals x v ≡ reason initial present c x v

-- written out, the rule is the reason of each value of x, from v up to the last one it is known of, that lacks support now
abbrev pub FitsRule : Domains → Domains → Con → ℕ → ℤ → Known → List Interval → Type 0
FitsRule initial present c x v known intervals =
    (w : ℤ) → v ≤ℤ w → w ≤ℤ known.last → WantsReason initial present c x w → written initial c known.rule intervals x w ≡ reason initial present c x w
