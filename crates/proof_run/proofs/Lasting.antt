-- The number of the lemma that gave a negation: no more than the pairs that were undone.
use Rattle.std.proofs.Common.{ℕ, ◌+◌, ◌<◌, ◌≤◌, Bool, true, false, cond, List, [], ◌∷◌, length, arith}
use Rattle.palm_base.specs.declared.terms.Pair.{Pair}
use Rattle.palm_base.specs.Order.{same_pair}
use Rattle.proof_run.specs.Lemma.{last_from, lemma_of}

last_within : (n found : ℕ) (pairs : List Pair) (p : Pair) → found < n → last_from n found pairs p < n + length pairs
last_within n found [] p lt = omega (arith, lt)
last_within n found (q ∷ qs) p lt =
    let later = last_within (n + 1) (cond (same_pair q p) n found) qs p (below (same_pair q p)) in
    omega (arith, later)
  where
    below : (b : Bool) → cond b n found < n + 1
    below true = omega arith
    below false = omega (arith, lt)

pub lemma_within : (undone : List Pair) (p : Pair) → lemma_of undone p ≤ length undone
lemma_within undone p = let lt = last_within 1 0 undone p (omega arith) in omega (arith, lt)
