-- The decimal text of whole numbers.
use Rattle.std.specs.Prelude.{◌≡◌, ℕ, ℤ, pos, neg_ℤ, ◌+◌, ◌*◌, ◌-◌, ◌<◌, ◌≤◌, List, ◌∷◌, ◌⊎◌, length, fold, All}

-- the number that digits stand for
abbrev pub digits_number : List ℕ → ℕ
digits_number digits = fold (λ n b. 10 * n + (b - 48)) 0 digits

-- one or more digits
pub record AreDigits (bytes : List ℕ) : Type 0 where
  pub some : 0 < length bytes
  pub each : All (λ b. (48 ≤ b) × (b ≤ 57)) bytes

-- the bytes are digits for the number, or `-` and digits
abbrev pub IsIntText : List ℕ → ℤ → Type 0
IsIntText bytes z =
    (AreDigits bytes × (z ≡ pos (digits_number bytes)))
    ⊎ ((digits : List ℕ) × (bytes ≡ 45 ∷ digits) × AreDigits digits × (z ≡ neg_ℤ (pos (digits_number digits))))
