use Rattle.std.proofs.Common.{arith, ◌≡◌, ℕ, ℤ, ◌<ℤ◌, ◌≤ℤ◌, ◌+◌, ◌<◌, ◌≤◌, List, length, get_or}
use Rattle.std.proofs.lemmas.Int.{ints}
use Rattle.palm_domain.specs.Rows.{Ascends}
use Rattle.palm_domain.proofs.cited.Ascending.{get_or-rises}
use Rattle.palm_domain.proofs.cited.Comparisons.{lt_from_is_lt, ge_from_is_lt}
use Rattle.palm_domain.proofs.places.search.Goals as goal

-- the values up to a low one are low, and those from a high one on are high
module _ (xs : List ℤ) (a : Ascends xs) (v read : ℤ) (middle : ℕ) (within : middle < length xs) (is : read ≡ get_or xs middle read) where
  below : read <ℤ v → (k : ℕ) (d : ℤ) → k < middle + 1 → get_or xs k d <ℤ v
  below low k d l = omega (arith, ints, get_or-rises xs a k middle d read (omega arith) within, is)

  above : v ≤ℤ read → (k : ℕ) (d : ℤ) → middle ≤ k → k < length xs → v ≤ℤ get_or xs k d
  above high k d l m = omega (arith, ints, get_or-rises xs a middle k read d l m, is)

pub loop-low-preserved-then-lt : goal.loop-low-preserved-then-lt
loop-low-preserved-then-lt c = record {
  ordered = omega arith;
  within = c.loop-low.invariant.within;
  below = below c.args.values.now c.requires.ascend c.args.value c.index-values-middle.result _ (omega arith) c.index-values-middle.is (lt_from_is_lt _ _ c.if-lt.ensures);
  above = c.loop-low.invariant.above;
}

pub loop-low-preserved : goal.loop-low-preserved
loop-low-preserved c = record {
  ordered = omega arith;
  within = omega arith;
  below = c.loop-low.invariant.below;
  above = above c.args.values.now c.requires.ascend c.args.value c.index-values-middle.result _ (omega arith) c.index-values-middle.is (ge_from_is_lt _ _ c.if-lt.ensures);
}

pub returns : goal.returns
returns c = record {
  within = omega arith;
  below = c.loop-low.invariant.below;
  above = λ k d l m. c.loop-low.invariant.above k d (omega arith) m;
}
