-- The reason of a removal: the removed pairs for which a constraint takes a value out, ordered by the variables of the
-- scope, then by value. The reason of each kind stands in the file of its name.
use Rattle.std.specs.Prelude.{◌≡◌, ℕ, ℤ, ◌<◌, List, [], length, All, Contains}
use Rattle.palm_base.specs.declared.terms.Pair.{Pair}
use Rattle.palm_model.specs.Domains.{Domains, Has, IsInside, AllAscend, values_of, without}
use Rattle.palm_model.specs.Constraint.{scope, IsFormed}
use Rattle.palm_model.specs.Comparison.{comparison_reason}
use Rattle.palm_model.specs.Linear.{linear_reason}
use Rattle.palm_model.specs.Table.{table_reason}
use Rattle.palm_model.specs.Element.{element_reason}
use Rattle.palm_model.specs.Count.{count_reason}
use Rattle.palm_model.specs.Differ.{differ_reason}
use Rattle.palm_model.specs.Support.{LacksSupport}
use Rattle.palm_model.specs.declared.constraint.Con.{Con}
use Rattle.palm_model.specs.declared.constraint.Con.TheVariants.{CompareVar, CompareConst, Linear, Table, Element, Count, Differ, Within}

-- the reason for which the constraint takes v of x out, by the declared and the present values
abbrev pub reason : Domains → Domains → Con → ℕ → ℤ → List Pair
reason initial present (CompareVar left op right offset) x v = comparison_reason initial left op right offset x v
reason initial present (CompareConst left op value) x v = []
reason initial present (Linear terms op bound) x v = linear_reason initial present terms op bound x v
reason initial present (Table vars rows) x v = table_reason initial present vars rows x v
reason initial present (Element outcome index entries) x v = element_reason initial outcome index entries x v
reason initial present (Count value vars op target) x v = count_reason initial present value vars op target x v
reason initial present (Differ vars) x v = differ_reason initial present vars x v
reason initial present (Within var values) x v = []

-- none of the variables has an empty domain
abbrev pub AreFilled : Domains → List ℕ → Type 0
AreFilled d xs = All (λ x. 0 < length (values_of d x)) xs

-- a reason is asked for: the value is present and unsupported, and no domain of the scope is empty
pub record WantsReason (initial present : Domains) (c : Con) (x : ℕ) (v : ℤ) : Type 0 where
  pub initial_ascend : AllAscend initial
  pub present_ascend : AllAscend present
  pub inside : IsInside present initial
  pub formed : IsFormed (length initial) c
  pub present_value : Has present x v
  pub lacks : LacksSupport present c x v
  pub filled : AreFilled present (scope c)

-- the pairs are removed ones of other variables of the scope, and without them alone the value lacks support
pub record IsReason (initial present : Domains) (c : Con) (x : ℕ) (v : ℤ) (pairs : List Pair) : Type 0 where
  pub removed : (p : Pair) → Contains pairs p → Has initial p.var p.value × (Has present p.var p.value → ⊥)
  pub others : (p : Pair) → Contains pairs p → Contains (scope c) p.var × (p.var ≡ x → ⊥)
  pub lacks : LacksSupport (without initial pairs) c x v
