-- Domains: `LO..HI` and `{1,2}`.
use Rattle.std.specs.Prelude.{ℕ, zero, suc, ℤ, pos, negsuc, ◌+◌, ◌<◌, ◌+ℤ◌, ◌-ℤ◌, ◌≤ℤ◌, List, [], ◌∷◌, ◌++◌, length, map, All, int_lt, codes, if◌then◌else◌}
use Rattle.std.specs.Ordering.{int_eq}
use Rattle.std.specs.Fmt.{signed_decimal}
use Rattle.palm_base.specs.Ascending.{Ascends}
use Rattle.palm_model.specs.Limits.{IsValue}
use Rattle.palm_read.specs.Bounds.{Bounded, a_value}
use Rattle.palm_read.specs.Piece.{Piece, Mark, Integer, listed}
use Rattle.palm_read.specs.Words.{with_commas}
use Rattle.palm_read.specs.declared.limits.TheConstants.{MOST_VALUES}
use Rattle.palm_read.specs.declared.line.DomainText.{DomainText}
use Rattle.palm_read.specs.declared.line.DomainText.TheVariants.{Range, Set}

-- from the lowest to the highest value, or these values in any order and with repeats
pub data DomainForm : Type 0 where
  Interval : (low high : ℤ) → DomainForm
  Members : (values : List ℤ) → DomainForm

-- INT ".." INT, or the values in braces
abbrev pub domain_pieces : DomainForm → List Piece
domain_pieces (Interval low high) = Integer low ∷ Mark (codes "..") ∷ Integer high ∷ []
domain_pieces (Members values) = Mark (codes "{") ∷ listed values ++ Mark (codes "}") ∷ []

-- ---- what it says

-- the values with one more, ascending and without repeats
abbrev pub with_value : ℤ → List ℤ → List ℤ
with_value v [] = v ∷ []
with_value v (w ∷ ws) = if int_lt v w then v ∷ w ∷ ws else (if int_eq v w then w ∷ ws else w ∷ with_value v ws)

-- the set of the values, ascending
abbrev pub set_of : List ℤ → List ℤ
set_of [] = []
set_of (v ∷ vs) = with_value v (set_of vs)

abbrev pub domain_of : DomainForm → DomainText
domain_of (Interval low high) = Range low high
domain_of (Members values) = Set (set_of values)

-- a number that is not negative
abbrev pub count_in : ℤ → ℕ
count_in (pos n) = n
count_in (negsuc n) = 0

-- so many numbers from one on
abbrev pub from_on : ℤ → ℕ → List ℤ
from_on v zero = []
from_on v (suc n) = v ∷ from_on (v +ℤ pos 1) n

-- the values of a domain that is not empty, ascending
abbrev pub values_in : DomainText → List ℤ
values_in (Range low high) = from_on low (count_in (high -ℤ low) + 1)
values_in (Set values) = values

-- ---- limits

abbrev pub domain_numbers : DomainForm → List Bounded
domain_numbers (Interval low high) = a_value low ∷ a_value high ∷ []
domain_numbers (Members values) = map a_value values

-- more values than a variable may have
abbrev pub IsLarge : DomainText → Type 0
IsLarge (Range low high) = pos MOST_VALUES ≤ℤ (high -ℤ low)
IsLarge (Set values) = MOST_VALUES < length values

-- it is not empty, and its values are values of the language
abbrev pub IsSoundDomain : DomainText → Type 0
IsSoundDomain (Range low high) = IsValue low × IsValue high × (low ≤ℤ high)
IsSoundDomain (Set values) = (0 < length values) × Ascends values × All IsValue values

-- ---- text

-- LO..HI
abbrev pub range_text : ℤ → ℤ → List ℕ
range_text low high = signed_decimal low ++ codes ".." ++ signed_decimal high

-- {1,2}
abbrev pub set_text : List ℤ → List ℕ
set_text vs = codes "{" ++ with_commas vs ++ codes "}"

abbrev pub domain_text : DomainText → List ℕ
domain_text (Range low high) = range_text low high
domain_text (Set vs) = set_text vs
