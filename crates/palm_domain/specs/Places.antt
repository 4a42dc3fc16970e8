-- Where a value stands, or would stand, in an ascending list.
use Rattle.std.specs.Prelude.{ℕ, ℤ, ◌<◌, ◌≤◌, ◌<ℤ◌, ◌≤ℤ◌, List, length, slice_index_or}

-- the values before the place are lower, and those from it on are not
pub record IsPlaceFrom (values : List ℤ) (value : ℤ) (place : ℕ) : Type 0 where
  pub within : place ≤ length values
  pub below : (k : ℕ) (d : ℤ) → k < place → slice_index_or values k d <ℤ value
  pub above : (k : ℕ) (d : ℤ) → place ≤ k → k < length values → value ≤ℤ slice_index_or values k d
