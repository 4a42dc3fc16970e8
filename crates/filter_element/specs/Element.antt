-- The constraint of an element of a list, and when a value of one of its two variables goes with one of the other's.
use Rattle.std.specs.Prelude.{◌≡◌, ℕ, ℤ, pos, ◌+◌, Some, slice_get}
use Rattle.palm_model.specs.Domains.{Domains, Has}
use Rattle.palm_model.specs.Element.{entry_at}
use Rattle.palm_model.specs.declared.constraint.Con.{Con}
use Rattle.palm_model.specs.declared.constraint.Con.TheVariants.{Element}
use Rattle.filter_element.specs.declared.rule.ElementRule.{ElementRule}

abbrev pub element_of : ElementRule → Con
element_of c = Element c.outcome c.index c.entries

-- w is the entry at a place whose index the index variable has
pub record IsEntryReached (d : Domains) (c : ElementRule) (w : ℤ) : Type 0 where
  pub place : ℕ
  pub stands : slice_get c.entries place ≡ Some w
  pub index : Has d c.index (pos (place + 1))

-- there is an entry at index k, and the outcome variable has it
pub record IsEntryOpen (d : Domains) (c : ElementRule) (k : ℤ) : Type 0 where
  pub entry : ℤ
  pub stands : entry_at c.entries k ≡ Some entry
  pub outcome : Has d c.outcome entry
