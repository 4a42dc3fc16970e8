use Rattle.std.proofs.Common.{◌≡◌, ℕ, ℤ, pos, ◌+ℤ◌, ◌+◌, ◌<◌, ◌≤◌, List, length, get_or, arith, sym}
use Rattle.std.proofs.lemmas.Int.{ints}
use Rattle.palm_domain.specs.Places.{IsPlaceFrom}
use Rattle.palm_domain.specs.Rows.{Ascends}
use Rattle.palm_domain.proofs.cited.Ascending.{get_or-rises, get_or-ascends, above_others}
use Rattle.palm_domain.proofs.cited.Comparisons.{same_from_int_eq, apart_from_int_eq}
use Rattle.palm_domain.proofs.places.sparse_place_after.Goals as goal
use Rattle.palm_domain.proofs.places.sparse_place_after.Goals.{else-place-values-via-then-place-values+else-eq, else-place-values-via-else-place-values}

module _ (xs : List ℤ) (a : Ascends xs) (v : ℤ) (place : ℕ) (from : IsPlaceFrom xs v place) where
  -- the value stands at the place
  after_itself : (read : ℤ) → place < length xs → read ≡ get_or xs place read → read ≡ v → IsPlaceFrom xs (v +ℤ pos 1) (place + 1)
  after_itself read l is same = record {
    within = omega arith;
    below = λ k d lt. omega (arith, ints, get_or-rises xs a k place d read (omega arith) l, is, same);
    above = λ k d ge lt. omega (arith, ints, get_or-ascends xs a place k read d (omega arith) lt, is, same);
  }

  -- another value stands there
  after_other : (read : ℤ) → place < length xs → read ≡ get_or xs place read → (read ≡ v → ⊥) → IsPlaceFrom xs (v +ℤ pos 1) place
  after_other read l is apart =
      let higher = above_others v read (omega (arith, ints, from.above place read (omega arith) l, is)) apart in
      record {
        within = from.within;
        below = λ k d lt. omega (arith, ints, from.below k d lt);
        above = λ k d ge lt. omega (arith, ints, get_or-rises xs a place k read d ge lt, is, higher);
      }

  after_none : length xs ≤ place → IsPlaceFrom xs (v +ℤ pos 1) place
  after_none past = record {
    within = from.within;
    below = λ k d lt. omega (arith, ints, from.below k d lt);
    above = λ k d ge lt. absurd (omega arith);
  }

pub returns-then-eq : goal.returns-then-eq
returns-then-eq c =
    after_itself c.args.values.now c.requires c.args.value c.sparse_place_from-place.result c.sparse_place_from-place.ensures c.index-values-place.result c.if-place-values.true c.index-values-place.is (same_from_int_eq _ _ (sym c.if-eq.ensures))

pub returns-else-place-values : goal.returns-else-place-values
returns-else-place-values c = elim c.else-place-values.branch [
  | else-place-values-via-then-place-values+else-eq w ↦ after_other c.args.values.now c.requires c.args.value c.sparse_place_from-place.result c.sparse_place_from-place.ensures w.index-values-place.result w.if-place-values.true w.index-values-place.is (apart_from_int_eq _ _ (sym w.if-eq.ensures))
  | else-place-values-via-else-place-values w ↦ after_none c.args.values.now c.requires c.args.value c.sparse_place_from-place.result c.sparse_place_from-place.ensures w.if-place-values.false
]
