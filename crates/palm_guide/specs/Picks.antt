-- What the stock guides pick, and what becomes of the numbers of the one that counts conflicts.
use Rattle.std.specs.Prelude.{◌≡◌, ℕ, ◌+◌, ◌<◌, ◌&&◌, min, nat_eq, nat_le, nat_lt, Bool, List, [], length, filter, find, slice_get, slice_index_or, Option, None, Some, option_map}
use Rattle.std.specs.List.{IsFirstBest}
use Rattle.palm_base.specs.declared.limits.TheConstants.{LAST_COUNT}
use Rattle.palm_base.specs.declared.terms.Pair.{Pair}
use Rattle.palm_guide.specs.declared.guide.ViewRow.{ViewRow}

-- the variable has at least two values
abbrev pub is_open : ViewRow → Bool
is_open row = nat_le 2 row.count

-- the variable with its least value
abbrev pub least_pair : ViewRow → Pair
least_pair row = record { var = row.var; value = row.least }

-- ---- the first one

-- the first variable with at least two values, and its least value
abbrev pub first_pick : List ViewRow → Option Pair
first_pick view = option_map least_pair (find is_open view)

-- ---- the best one

-- the pair is that of a row that no other beats, and that beats each row before it
pub record IsBestPair (beats : ViewRow → ViewRow → Bool) (rows : List ViewRow) (p : Pair) : Type 0 where
  pub place : ℕ
  pub row : ViewRow
  pub best : IsFirstBest beats rows (length rows) place
  pub stands : slice_get rows place ≡ Some row
  pub least : p ≡ least_pair row

-- the pair of the best of these rows, and none exactly where there are no rows
abbrev pub IsPick : (ViewRow → ViewRow → Bool) → List ViewRow → Option Pair → Type 0
IsPick beats rows None = rows ≡ []
IsPick beats rows (Some p) = IsBestPair beats rows p

-- the one variable has fewer values than the other
abbrev pub has_fewer : ViewRow → ViewRow → Bool
has_fewer row other = nat_lt row.count other.count

-- ---- numbers of conflicts

-- the number that is kept for a variable
abbrev pub number_of : List ℕ → ℕ → ℕ
number_of numbers x = slice_index_or numbers x 0

-- a number is kept for the variable, and it has at least two values
abbrev pub is_counted : List ℕ → ViewRow → Bool
is_counted numbers row = is_open row && nat_lt row.var (length numbers)

-- the one variable was in more conflicts than the other
abbrev pub has_more : List ℕ → ViewRow → ViewRow → Bool
has_more numbers row other = nat_lt (number_of numbers other.var) (number_of numbers row.var)

-- how often the variable is among these
abbrev pub times_among : List ℕ → ℕ → ℕ
times_among vars x = length (filter (λ y. nat_eq y x) vars)

-- the number of each variable rises by one each time that the variable is among these, up to the last number
pub record Raises (before vars after : List ℕ) : Type 0 where
  pub many : length after ≡ length before
  pub risen : (x : ℕ) → x < length before → number_of after x ≡ min (number_of before x + times_among vars x) LAST_COUNT
