-- What a test of membership says of a list of values.
use Rattle.std.proofs.Common.{◌≡◌, Bool, true, false, List, ℤ, Contains, refl, sym}
use Rattle.palm_base.specs.Tells.{Tells}
use Rattle.palm_model.specs.Removed.{is_listed}
use Rattle.palm_model.proofs.cited.Reasons.{listed_member, member_listed}

pub listed_told : (vs : List ℤ) (v : ℤ) (told : Bool) → Tells told (Contains vs v) → told ≡ is_listed vs v
listed_told vs v true there = sym (member_listed vs v there)
listed_told vs v false missing = by_case (is_listed vs v) (λ t. missing (listed_member vs v t))
  where
    by_case : (b : Bool) → (b ≡ true → ⊥) → false ≡ b
    by_case true n = absurd (n refl)
    by_case false n = refl
