-- The places of a list of values, in the order of the values.
use Rattle.std.specs.Prelude.{◌≡◌, ℕ, ℤ, pos, ◌+ℤ◌, ◌<◌, ◌≤◌, ◌<ℤ◌, ◌≤ℤ◌, List, length, Contains, slice_index_or}
use Rattle.palm_model.specs.Constraint.{Distinct}

-- the value at the place, and 0 where there is none
abbrev pub value_at : List ℤ → ℕ → ℤ
value_at values k = slice_index_or values k (pos 0)

-- each place of the list stands once among the places, no other one does, the values at the places rise, and the places of
-- one value ascend
pub record IsIndex (values : List ℤ) (places : List ℕ) : Type 0 where
  pub within : (k : ℕ) → Contains places k → k < length values
  pub every : (k : ℕ) → k < length values → Contains places k
  pub once : Distinct places
  pub rise : (i j d : ℕ) → i ≤ j → j < length places → value_at values (slice_index_or places i d) ≤ℤ value_at values (slice_index_or places j d)
  pub ascend : (i j d : ℕ) → i < j → j < length places → value_at values (slice_index_or places i d) ≡ value_at values (slice_index_or places j d) → slice_index_or places i d < slice_index_or places j d

-- no value is below it
pub record IsLeast (values : List ℤ) (least : ℤ) : Type 0 where
  pub each : (k : ℕ) → k < length values → least ≤ℤ value_at values k

-- no value is above it
pub record IsGreatest (values : List ℤ) (greatest : ℤ) : Type 0 where
  pub each : (k : ℕ) → k < length values → value_at values k ≤ℤ greatest

-- the places before the start are those of the values below the number
pub record IsStart (values : List ℤ) (places : List ℕ) (number : ℤ) (start : ℕ) : Type 0 where
  pub within : start ≤ length places
  pub before : (i d : ℕ) → i < start → value_at values (slice_index_or places i d) <ℤ number
  pub after : (i d : ℕ) → start ≤ i → i < length places → number ≤ℤ value_at values (slice_index_or places i d)

-- the starts of as many numbers from the least value on
pub record AreStartsFrom (values : List ℤ) (places : List ℕ) (least : ℤ) (starts : List ℕ) : Type 0 where
  pub each : (distance d : ℕ) → distance < length starts → IsStart values places (least +ℤ pos distance) (slice_index_or starts distance d)

-- none, or the starts of the numbers from the least value on up to the one after the greatest
pub record AreStarts (values : List ℤ) (places : List ℕ) (least : ℤ) (starts : List ℕ) : Type 0 where
  pub from : AreStartsFrom values places least starts
  pub low : IsLeast values least
  pub high : 0 < length starts → (k : ℕ) → k < length values → (value_at values k +ℤ pos 1) <ℤ (least +ℤ pos (length starts))

-- an index with its starts
pub record IsStarted (values : List ℤ) (places : List ℕ) (least : ℤ) (starts : List ℕ) : Type 0 where
  pub index : IsIndex values places
  pub starting : AreStarts values places least starts
