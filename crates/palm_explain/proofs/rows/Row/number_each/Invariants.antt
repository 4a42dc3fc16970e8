use Rattle.std.proofs.Common.{◌≡◌, ◌+◌, ◌<◌, ℕ, ℤ, Some, Contains, length, take, slice_get}
use Rattle.palm_explain.specs.Rows.{IsFormedRow, value_number}
use Rattle.palm_explain.proofs.rows.Row.number_each.Given as goal

-- the values so far have their numbers, and nothing else has another one
abbrev pub invariant-loop-value : goal.invariant-loop-value
invariant-loop-value l = record {
  formed : IsFormedRow l.self;
  numbered : (i : ℕ) (v : ℤ) → i < l.value-index → slice_get l.values i ≡ Some v → value_number l.self v ≡ Some (l.first + i);
  others : (v : ℤ) → (Contains (take l.value-index l.values) v → ⊥) → value_number l.self v ≡ value_number l.fn.self v;
  there : (v : ℤ) → Contains l.values v → (k : ℕ) × (value_number l.self v ≡ Some k);
  lost : length l.self.values.items ≡ length l.fn.self.values.items;
  number : l.number ≡ l.first + l.value-index;
}
