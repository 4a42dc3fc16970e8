use Rattle.std.proofs.Common.{arith, ◌≡◌, ℕ, ℤ, ◌<ℤ◌, ◌-◌, ◌<◌, ◌≤◌, List, length, get_or}
use Rattle.std.proofs.lemmas.Int.{ints}
use Rattle.palm_domain.specs.Rows.{Ascends}
use Rattle.palm_domain.proofs.cited.Ascending.{get_or-rises}
use Rattle.palm_domain.proofs.cited.Comparisons.{lt_from_is_lt}
use Rattle.palm_domain.proofs.places.sparse_place_from.Goals as goal
use Rattle.palm_domain.proofs.places.sparse_place_from.Goals.{then-end-eq0-via-then-end-eq0, then-end-eq0-via-else-end-eq0+then-lt}

-- the values up to a low one are low
below : (xs : List ℤ) → Ascends xs → (v read : ℤ) (end : ℕ) → 0 < end → end ≤ length xs → read ≡ get_or xs (end - 1) read → read <ℤ v → (k : ℕ) (d : ℤ) → k < end → get_or xs k d <ℤ v
below xs a v read end some within is low k d l =
    omega (arith, ints, get_or-rises xs a k (end - 1) d read (omega arith) (omega arith), is)

pub returns-then-end-eq0 : goal.returns-then-end-eq0
returns-then-end-eq0 c = record {
  within = c.end_of_lower-end.ensures.within;
  below = λ k d l. elim c.then-end-eq0.branch [
    | then-end-eq0-via-then-end-eq0 w ↦ absurd (omega arith)
    | then-end-eq0-via-else-end-eq0+then-lt w ↦ below c.args.values.now c.requires c.args.value w.index-values-end.result c.end_of_lower-end.result (omega arith) c.end_of_lower-end.ensures.within w.index-values-end.is (lt_from_is_lt _ _ w.if-lt.ensures) k d l
  ];
  above = c.end_of_lower-end.ensures.above;
}
