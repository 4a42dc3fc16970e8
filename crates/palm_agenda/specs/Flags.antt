-- Which of the connected constraints are pending: a flag for each, place by place.
use Rattle.std.specs.Prelude.{◌≡◌, ℕ, suc, Bool, true, false, Some, List, [], ◌∷◌, slice_get}
use Rattle.std.specs.List.{AllWithin}
use Rattle.palm_base.specs.declared.terms.Cid.{Cid}

-- flags, and how many find room without more memory
pub record FlagRow : Type 0 where
  pub flags : List Bool
  pub room : ℕ

-- the ids at the places whose flag is raised
abbrev pub flagged : List Cid → List Bool → List Cid
flagged [] flags = []
flagged (c ∷ cids) [] = []
flagged (c ∷ cids) (true ∷ flags) = c ∷ flagged cids flags
flagged (c ∷ cids) (false ∷ flags) = flagged cids flags

-- how many flags are raised
abbrev pub count_raised : List Bool → ℕ
count_raised [] = 0
count_raised (true ∷ flags) = suc (count_raised flags)
count_raised (false ∷ flags) = count_raised flags

-- the flag at the place is the first one that is raised
pub record IsFirst (flags : List Bool) (place : ℕ) : Type 0 where
  pub raised : slice_get flags place ≡ Some true
  pub before : AllWithin (λ b. b ≡ false) flags 0 place

-- so many flags are raised, and none below the lowest place
pub record IsCounted (flags : List Bool) (raised lowest : ℕ) : Type 0 where
  pub many : raised ≡ count_raised flags
  pub below : AllWithin (λ b. b ≡ false) flags 0 lowest
