use Rattle.std.proofs.Common.{arith, ◌≡◌, ℕ, ℤ, ◌≤ℤ◌, ◌<◌, ◌≤◌, List, length, get_or, min}
use Rattle.std.specs.Int.{int_gap}
use Rattle.std.proofs.lemmas.Int.{ints}
use Rattle.palm_domain.specs.Rows.{Ascends}
use Rattle.palm_domain.proofs.cited.Ascending.{get_or-steps, int_gap_reaches}
use Rattle.palm_domain.proofs.places.end_of_lower.Goals as goal

above : (xs : List ℤ) → Ascends xs → (v least : ℤ) (end : ℕ) → least ≡ get_or xs 0 least → end ≡ min (length xs) (int_gap least v) → (k : ℕ) (d : ℤ) → end ≤ k → k < length xs → v ≤ℤ get_or xs k d
above xs a v least end is e k d l m =
    let reach = int_gap_reaches least v k (omega arith) in
    omega (arith, ints, get_or-steps xs a k least d m, is)

pub returns-in-Some-clause-above : goal.returns-in-Some-clause-above
returns-in-Some-clause-above c =
    above c.args.values.now c.requires c.args.value c.in-Some.least.now c.min.result c.in-Some.ensures.item.1 (cc)
