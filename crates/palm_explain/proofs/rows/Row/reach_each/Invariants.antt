use Rattle.std.proofs.Common.{◌≡◌, ◌⊎◌, ℕ, ℤ, Some, Contains, take}
use Rattle.palm_explain.specs.Rows.{IsFormedRow, value_number}
use Rattle.palm_explain.specs.declared.rows.TheConstants.{NO_NUMBER}
use Rattle.palm_explain.proofs.rows.Row.reach_each.Given as goal

-- the values so far have numbers, and all removals stay
abbrev pub invariant-loop-value : goal.invariant-loop-value
invariant-loop-value l = record {
  formed : IsFormedRow l.self;
  stay : (v : ℤ) (k : ℕ) → value_number l.fn.self v ≡ Some k → value_number l.self v ≡ Some k;
  only : (v : ℤ) (k : ℕ) → value_number l.self v ≡ Some k → (value_number l.fn.self v ≡ Some k) ⊎ (k ≡ NO_NUMBER);
  there : (v : ℤ) → Contains (take l.value-index l.values) v → (k : ℕ) × (value_number l.self v ≡ Some k);
}
