-- The values that stand beside those of a column.
use Rattle.std.specs.Prelude.{◌≡◌, ℕ, ℤ, pos, ◌+ℤ◌, ◌<◌, List, Some, slice_get, slice_index_or}
use Rattle.std.specs.Int.{bit_at}
use Rattle.filter_table.specs.declared.beside.Beside.{Beside}
use Rattle.filter_table.specs.declared.beside.TheConstants.{MOST_NEAR}

-- the value lies k above the least one, and is near it
pub record IsNear (least value : ℤ) (k : ℕ) : Type 0 where
  pub within : k < MOST_NEAR
  pub is : value ≡ least +ℤ pos k

-- bit k of word i is one
abbrev pub IsNoted : Beside → ℕ → ℕ → Type 0
IsNoted b i k = bit_at (slice_index_or b.words i 0) k ≡ 1

-- the two values have their bit
pub record HasBit (b : Beside) (u w : ℤ) : Type 0 where
  pub word : ℕ
  pub bit : ℕ
  pub own : IsNear b.own_least u word
  pub other : IsNear b.other_least w bit
  pub noted : IsNoted b word bit

-- some place has the numbers that far above the least ones, in the two lists
pub record IsRow (us ws : List ℤ) (b : Beside) (i k : ℕ) : Type 0 where
  pub place : ℕ
  pub own : slice_get us place ≡ Some (b.own_least +ℤ pos i)
  pub other : slice_get ws place ≡ Some (b.other_least +ℤ pos k)

-- the first values of the two lists, as many as are counted, have their bits, and no bit is one for anything else
pub record AreBeside (us ws : List ℤ) (count : ℕ) (b : Beside) : Type 0 where
  pub all : (j : ℕ) (u w : ℤ) → j < count → slice_get us j ≡ Some u → slice_get ws j ≡ Some w → HasBit b u w
  pub only : (i k : ℕ) → i < MOST_NEAR → k < MOST_NEAR → IsNoted b i k → IsRow us ws b i k
