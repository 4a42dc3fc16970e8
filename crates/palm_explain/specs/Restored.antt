-- The variables of which a withdrawal put values back: a list, and in the row of each of them its place there.
use Rattle.std.specs.Prelude.{◌≡◌, ℕ, List, length, Option, Some, None, slice_get}
use Rattle.palm_base.specs.declared.terms.Pair.{Pair}
use Rattle.palm_explain.specs.declared.restored.Restored.{Restored}
use Rattle.palm_explain.specs.declared.rows.Row.{Row}
use Rattle.palm_explain.specs.Rows.{AreFormedRows, number_at}

-- the place that the row of a variable says
abbrev pub slot_or : Option Row → ℕ
slot_or None = 0
slot_or (Some r) = r.slot

abbrev pub slot_at : List Row → ℕ → ℕ
slot_at rows x = slot_or (slice_get rows x)

-- each of these stands where its row says
abbrev pub AreSlotted : List Row → List Restored → Type 0
AreSlotted rows restored = (i : ℕ) (r : Restored) → slice_get restored i ≡ Some r → slot_at rows r.var ≡ i

-- as many rows, with the same numbers
pub record KeepsNumbers (old new : List Row) : Type 0 where
  pub long : length new ≡ length old
  pub formed : AreFormedRows old → AreFormedRows new
  pub numbers : (p : Pair) → number_at new p ≡ number_at old p
