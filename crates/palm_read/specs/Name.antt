-- Names.
use Rattle.std.specs.Prelude.{◌≡◌, ℕ, ◌≤◌, true, List, [], ◌∷◌, ◌⊎◌, length, All, codes}
use Rattle.palm_read.specs.Bytes.{is_letter, is_word_byte}
use Rattle.palm_read.specs.declared.limits.TheConstants.{MOST_NAME_BYTES}

-- the words that are no names
abbrev pub IsReserved : List ℕ → Type 0
IsReserved w =
    (w ≡ codes "sum") ⊎ (w ≡ codes "table") ⊎ (w ≡ codes "element") ⊎ (w ≡ codes "count")
    ⊎ (w ≡ codes "differ") ⊎ (w ≡ codes "in")

-- a word that is a name
pub record IsName (w : List ℕ) : Type 0 where
  pub short : length w ≤ MOST_NAME_BYTES
  pub free : IsReserved w → ⊥

-- a letter or `_`, then letters, digits and `_`, short enough, and no word of the language
abbrev pub IsNameText : List ℕ → Type 0
IsNameText [] = ⊥
IsNameText (b ∷ bytes) = (is_letter b ≡ true) × All (λ c. is_word_byte c ≡ true) bytes × IsName (b ∷ bytes)
