-- The place at which a value stands in an ascending list: the values before it are lower, and those behind it higher.
use Rattle.std.proofs.Common.{◌≡◌, ℕ, ℤ, pos, ◌+ℤ◌, ◌+◌, ◌-◌, ◌<◌, ◌<ℤ◌, int_lt, List, length, get_or, slice_get, Some, sym, ap, ◌∙◌, arith}
use Rattle.std.proofs.lemmas.Int.{ints}
use Rattle.std.proofs.lemmas.Option.{slice_get_within, get_or_from_slice_get, slice_get-get_or}
use Rattle.palm_base.specs.Order.{IsPartedAt}
use Rattle.palm_domain.specs.Places.{IsPlaceFrom}
use Rattle.palm_domain.specs.Rows.{Ascends}
use Rattle.palm_domain.proofs.cited.Ascending.{get_or-ascends, get_or-rises}
use Rattle.palm_domain.proofs.cited.Comparisons.{int_lt_from_lt, int_lt_from_ge}

-- what was read at a place stands there
pub read_stands : (xs : List ℤ) (place : ℕ) (read : ℤ) → place < length xs → read ≡ get_or xs place read → slice_get xs place ≡ Some read
read_stands xs place read l is = slice_get-get_or xs place read l ∙ ap Some (sym is)

module _ (xs : List ℤ) (a : Ascends xs) (v : ℤ) (place : ℕ) (at : slice_get xs place ≡ Some v) where
  within : place < length xs
  within = slice_get_within xs place v at

  stands : get_or xs place v ≡ v
  stands = get_or_from_slice_get xs place v v at

  pub from_standing : IsPlaceFrom xs v place
  from_standing = record {
    within = omega (arith, within);
    below = λ k d l. omega (arith, ints, get_or-ascends xs a k place d v l within, stands);
    above = λ k d l m. omega (arith, ints, get_or-rises xs a place k v d l m, stands);
  }

  pub after_standing : IsPlaceFrom xs (v +ℤ pos 1) (place + 1)
  after_standing = record {
    within = omega (arith, within);
    below = λ k d l. omega (arith, ints, get_or-rises xs a k place d v (omega arith) within, stands);
    above = λ k d l m. omega (arith, ints, get_or-ascends xs a place k v d (omega arith) m, stands);
  }

-- the values before the place of a number are less than it, and the others are not
pub parted_from : (xs : List ℤ) (number : ℤ) (place : ℕ) → IsPlaceFrom xs number place → IsPartedAt (λ v. int_lt v number) xs place
parted_from xs number place from = record {
  within = from.within;
  before = λ k d ge lt. int_lt_from_lt (get_or xs k d) number (from.below k d lt);
  after = λ k d ge lt. int_lt_from_ge (get_or xs k d) number (from.above k d ge lt);
}

-- all are less than a number that the greatest is less than
pub parted_behind : (xs : List ℤ) → Ascends xs → (number greatest : ℤ) → greatest ≡ get_or xs (length xs - 1) greatest → greatest <ℤ number → IsPartedAt (λ v. int_lt v number) xs (length xs)
parted_behind xs a number greatest last low = record {
  within = omega arith;
  before = λ k d ge lt. int_lt_from_lt (get_or xs k d) number (omega (arith, ints, get_or-rises xs a k (length xs - 1) d greatest (omega arith) (omega arith), last, low));
  after = λ k d ge lt. absurd (omega arith);
}
