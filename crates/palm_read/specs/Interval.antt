-- Values as a domain: `LO..HI` where they are all whole numbers from LO to HI, and else `{1,2}`.
use Rattle.std.specs.Prelude.{ℕ, ℤ, pos, ◌+ℤ◌, ◌≤ℤ◌, Contains, Bool, true, false, ◌&&◌, List, [], ◌∷◌, if◌then◌else◌}
use Rattle.std.specs.Ordering.{int_eq}
use Rattle.palm_read.specs.Domain.{domain_text}
use Rattle.palm_read.specs.declared.line.DomainText.{DomainText}
use Rattle.palm_read.specs.declared.line.DomainText.TheVariants.{Range, Set}

-- each value is one more than the one before it
abbrev pub is_interval : List ℤ → Bool
is_interval [] = false
is_interval (v ∷ []) = true
is_interval (v ∷ w ∷ ws) = int_eq w (v +ℤ pos 1) && is_interval (w ∷ ws)

-- the last value behind a first one
abbrev pub last_of : ℤ → List ℤ → ℤ
last_of v [] = v
last_of v (w ∷ ws) = last_of w ws

-- all whole numbers from the first value to the last are among the values
abbrev pub HasAllBetween : ℤ → List ℤ → Type 0
HasAllBetween v vs = (w : ℤ) → v ≤ℤ w → w ≤ℤ last_of v vs → Contains (v ∷ vs) w

-- the domain of ascending values
abbrev pub domain_with : List ℤ → DomainText
domain_with [] = Set []
domain_with (v ∷ vs) = if is_interval (v ∷ vs) then Range v (last_of v vs) else Set (v ∷ vs)

-- ascending values: LO..HI where they are all from LO to HI, and else {v,v}
abbrev pub values_text : List ℤ → List ℕ
values_text values = domain_text (domain_with values)
