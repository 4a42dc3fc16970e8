-- The numbers of the lemmas that gave negations.
use Rattle.std.proofs.Common.{◌≡◌, ℕ, suc, ◌+◌, Bool, true, false, cond, Option, Some, List, [], ◌∷◌, ◌++◌, length, refl, ap, ◌∙◌, arith}
use Rattle.std.specs.Prelude.{unwrap_or}
use Rattle.palm_base.specs.declared.terms.Pair.{Pair}
use Rattle.palm_base.specs.Order.{same_pair}
use Rattle.proof_run.specs.Lemma.{last_from, lemma_of}

-- behind one more pair its place is the last one
last_push : (n found : ℕ) (qs : List Pair) (gone p : Pair) → last_from n found (qs ++ gone ∷ []) p ≡ cond (same_pair gone p) (n + length qs) (last_from n found qs p)
last_push n found [] gone p = let e : n ≡ n + 0 = omega arith in ap (λ k. cond (same_pair gone p) k found) e
last_push n found (q ∷ qs) gone p =
    let e : (n + 1) + length qs ≡ n + suc (length qs) = omega arith in
    last_push (n + 1) (cond (same_pair q p) n found) qs gone p ∙ ap (λ k. cond (same_pair gone p) k (last_from (n + 1) (cond (same_pair q p) n found) qs p)) e

pub lemma_push : (undone : List Pair) (gone p : Pair) → lemma_of (undone ++ gone ∷ []) p ≡ cond (same_pair gone p) (1 + length undone) (lemma_of undone p)
lemma_push undone gone p = last_push 1 0 undone gone p

-- the value that stands after a number was put under the pair
pub number_put : (b : Bool) (number : ℕ) (before : Option ℕ) → unwrap_or (cond b (Some number) before) 0 ≡ cond b number (unwrap_or before 0)
number_put true number before = refl
number_put false number before = refl
