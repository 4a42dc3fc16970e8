-- Marks of places, 64 to a word, and the values of a row whose places are marked.
use Rattle.std.specs.Prelude.{◌≡◌, ℕ, suc, ◌-◌, ◌/◌, ◌%◌, ◌<◌, ◌≤◌, ℤ, Bool, true, false, cond, List, [], ◌∷◌, length, nat_eq, slice_index_or}
use Rattle.std.specs.Int.{bit_at}
use Rattle.palm_domain.specs.Rows.{Ascends}
use Rattle.palm_domain.specs.declared.limits.TheConstants.{MOST_VALUES}

-- whether the place is marked: bit `place % 64` of word `place / 64`
unfoldable pub is_marked : List ℕ → ℕ → Bool
is_marked words place = nat_eq (bit_at (slice_index_or words (place / 64) 0) (place % 64)) 1

-- the values whose places pass the test; the first of them stands at this place
abbrev pub kept : (ℕ → Bool) → ℕ → List ℤ → List ℤ
kept m place [] = []
kept m place (v ∷ vs) = cond (m place) (v ∷ kept m (suc place) vs) (kept m (suc place) vs)

-- what is kept beside the values and their marks: how many marks there are, and the first and the last of them
pub record AreMarks (m : ℕ → Bool) (values : List ℤ) (count first end : ℕ) : Type 0 where
  pub ascends : Ascends values
  pub filled : 0 < length values
  pub small : length values ≤ MOST_VALUES
  pub within : (k : ℕ) → length values ≤ k → m k ≡ false
  pub counted : count ≡ length (kept m 0 values)
  pub first_small : first ≤ MOST_VALUES
  pub before_first : (k : ℕ) → k < first → m k ≡ false
  pub at_first : first < MOST_VALUES → m first ≡ true
  pub end_small : end ≤ MOST_VALUES
  pub after_end : (k : ℕ) → end ≤ k → m k ≡ false
  pub at_end : 0 < end → m (end - 1) ≡ true
