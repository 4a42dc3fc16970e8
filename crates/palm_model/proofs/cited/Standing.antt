-- The test of a relation says whether it holds.
use Rattle.std.proofs.Common.{◌≡◌, ℤ, ◌<ℤ◌, ◌≤ℤ◌, true, false, not, int_eq, int_lt, arith}
use Rattle.std.proofs.lemmas.Int.{ints}
use Rattle.std.proofs.lemmas.Bool.{not-true, both_ways}
use Rattle.std.proofs.lemmas.Bool.Decides.{Decides-int_eq, not_from_Decides}
use Rattle.palm_model.specs.Relation.{Stands, is_standing}
use Rattle.palm_model.specs.declared.constraint.Op.{Op}
use Rattle.palm_model.proofs.cited.Supports.{not_true}
use Rattle.palm_model.specs.declared.constraint.Op.TheVariants.{Eq, Ne, Lt, Le, Gt, Ge}

same_from_test : (m n : ℤ) → int_eq m n ≡ true → m ≡ n
same_from_test m n h = (Decides-int_eq m n).0 h

apart_from_test : (m n : ℤ) → not (int_eq m n) ≡ true → m ≡ n → ⊥
apart_from_test m n h = not_from_Decides (int_eq m n) (Decides-int_eq m n) (not-true (int_eq m n) h)

below_from_test : (m n : ℤ) → int_lt m n ≡ true → m <ℤ n
below_from_test m n h = grind (arith, ints)

up_to_from_test : (m n : ℤ) → not (int_lt n m) ≡ true → m ≤ℤ n
up_to_from_test m n h = grind (arith, ints)

test_from_apart : (m n : ℤ) → (m ≡ n → ⊥) → not (int_eq m n) ≡ true
test_from_apart m n ne = not_true (int_eq m n) (λ h. ne (same_from_test m n h))

test_from_below : (m n : ℤ) → m <ℤ n → int_lt m n ≡ true
test_from_below m n h = grind (arith, ints)

test_from_up_to : (m n : ℤ) → m ≤ℤ n → not (int_lt n m) ≡ true
test_from_up_to m n h = grind (arith, ints)

pub stands_from_test : (op : Op) (m n : ℤ) → is_standing op m n ≡ true → Stands op m n
stands_from_test Eq m n h = same_from_test m n h
stands_from_test Ne m n h = apart_from_test m n h
stands_from_test Lt m n h = below_from_test m n h
stands_from_test Le m n h = up_to_from_test m n h
stands_from_test Gt m n h = below_from_test n m h
stands_from_test Ge m n h = up_to_from_test n m h

pub test_from_stands : (op : Op) (m n : ℤ) → Stands op m n → is_standing op m n ≡ true
test_from_stands Eq m n h = (Decides-int_eq m n).1 h
test_from_stands Ne m n h = test_from_apart m n h
test_from_stands Lt m n h = test_from_below m n h
test_from_stands Le m n h = test_from_up_to m n h
test_from_stands Gt m n h = test_from_below n m h
test_from_stands Ge m n h = test_from_up_to n m h

pub not_from_test : (op : Op) (m n : ℤ) → is_standing op m n ≡ false → Stands op m n → ⊥
not_from_test op m n h s = both_ways (is_standing op m n) h (test_from_stands op m n s)
