-- The number of some variables that have a value: how low and how high it can be where one variable of the constraint
-- has a value of its own, and whether it can stand in the relation to the target.
use Rattle.std.specs.Prelude.{◌≡◌, ℕ, ℤ, pos, ◌<◌, ◌≤◌, ◌<ℤ◌, ◌≤ℤ◌, true, false, List, length, All, Contains}
use Rattle.palm_model.specs.Relation.{Stands}
use Rattle.palm_model.specs.Domains.{Domains}
use Rattle.palm_model.specs.Removed.{is_alone, is_listed}
use Rattle.palm_model.specs.declared.constraint.Con.{Con}
use Rattle.palm_model.specs.declared.constraint.Con.TheVariants.{Count}
use Rattle.palm_model.specs.declared.constraint.Op.{Op}
pub use Rattle.palm_reason.specs.Count.{values_where, target_values, low_count, high_count}
use Rattle.palm_model.specs.declared.limits.TheConstants.{MOST_SCOPE}
use Rattle.filter_occur.specs.declared.counts.Counts.{Counts}
use Rattle.filter_occur.specs.declared.rule.Chance.{Chance}
use Rattle.filter_occur.specs.declared.rule.Chance.TheVariants.{Certain, Impossible, Open}
use Rattle.filter_occur.specs.declared.rule.CountRule.{CountRule}

abbrev pub count_of : CountRule → Con
count_of o = Count o.value o.vars o.op o.target

-- what a variable with these values tells of the counted one
abbrev pub IsChance : List ℤ → ℤ → Chance → Type 0
IsChance values value Certain = is_alone values value ≡ true
IsChance values value Impossible = (0 < length values) × (is_listed values value ≡ false)
IsChance values value Open = 1 < length values

-- the least and the greatest count where x has the value v
pub record AreCounts (d : Domains) (x : ℕ) (v : ℤ) (o : CountRule) (counts : Counts) : Type 0 where
  pub low : counts.low ≡ low_count (values_where d x v) o.value o.vars
  pub high : counts.high ≡ high_count (values_where d x v) o.value o.vars
  pub ordered : counts.low ≤ counts.high
  pub small : counts.high ≤ MOST_SCOPE
  pub filled : All (λ y. 0 < length (values_where d x v y)) o.vars

-- the least count where x has the value v, and the greatest one or, where it is higher, a count that is enough
pub record AreCountsTo (d : Domains) (x : ℕ) (v : ℤ) (o : CountRule) (enough : ℤ) (counts : Counts) : Type 0 where
  pub low : counts.low ≡ low_count (values_where d x v) o.value o.vars
  pub most : counts.high ≤ high_count (values_where d x v) o.value o.vars
  pub high : pos counts.high <ℤ enough → counts.high ≡ high_count (values_where d x v) o.value o.vars
  pub ordered : counts.low ≤ counts.high
  pub small : counts.high ≤ MOST_SCOPE
  pub filled : All (λ y. 0 < length (values_where d x v y)) o.vars

-- one of the numbers stands in the relation to one of the values
pub record IsCountReached (counts : Counts) (op : Op) (values : List ℤ) : Type 0 where
  pub number : ℕ
  pub from : counts.low ≤ number
  pub to : number ≤ counts.high
  pub target : ℤ
  pub member : Contains values target
  pub stands : Stands op (pos number) target

-- where the high number is this or higher, how high it is does not matter to the relation
abbrev pub IsEnough : Op → List ℤ → ℤ → Type 0
IsEnough op values enough =
    (counts higher : Counts) → counts.low ≤ counts.high → enough ≤ℤ pos counts.high → higher.low ≡ counts.low → IsCountReached higher op values → IsCountReached counts op values

-- no variable is without a value where x has the value v, and some number stands in the relation to the target
pub record CanReach (d : Domains) (x : ℕ) (v : ℤ) (o : CountRule) : Type 0 where
  pub counts : Counts
  pub are : AreCounts d x v o counts
  pub reached : IsCountReached counts o.op (target_values d x v o.target)
