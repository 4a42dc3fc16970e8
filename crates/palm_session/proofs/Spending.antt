-- How the two counts of questions go together.
use Rattle.std.proofs.Common.{◌≡◌, ℕ, ◌+◌, ◌-◌, ◌≤◌, inl, inr, arith}
use Rattle.palm_session.specs.Serving.{DeskView, Spends}

-- one after another
pub spends_more : {G O : Type 0} (a b c : DeskView G O) (i j k : ℕ) → Spends a b i j → Spends b c j k → Spends a c i k
spends_more a b c i j k one two = record {
  later = omega (arith, one.later, two.later);
  checks = elim one.checks [
    | inl x ↦ elim two.checks [
      | inl y ↦ inl (omega (arith, x.0, y.0), omega (arith, x.1, y.1))
      | inr y ↦ inr (omega (arith, x.0, x.1, y))
    ]
    | inr x ↦ elim two.checks [
      | inl y ↦ inr (omega (arith, x, y.0, y.1))
      | inr y ↦ inr (omega (arith, one.later, two.later, x, y))
    ]
  ];
}

-- the counts of two steps are added up
pub counts_add : (i j k : ℕ) → i ≤ j → j ≤ k → (j - i) + (k - j) ≡ k - i
counts_add i j k one two = omega (arith, one, two)
