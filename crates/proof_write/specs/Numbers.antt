-- Which lemma gave the negation of which pair, as a writer keeps it.
use Rattle.std.specs.Prelude.{◌≡◌, ℕ, List, length, unwrap_or}
use Rattle.indexmap.specs.IndexMap.{get_by}
use Rattle.palm_base.specs.declared.terms.Pair.{Pair}
use Rattle.palm_base.specs.Order.{same_pair}
use Rattle.proof_run.specs.Lemma.{lemma_of}
use Rattle.proof_write.specs.declared.numbers.LemmaNumbers.{LemmaNumbers}

-- the number that stands under the pair, and 0 where none does
abbrev pub number_under : LemmaNumbers → Pair → ℕ
number_under numbers p = unwrap_or (get_by (same_pair p) numbers.last) 0

-- there is a lemma for each of these pairs, and under each pair stands the number of the last one that gave its negation
pub record AreNumbers (undone : List Pair) (numbers : LemmaNumbers) : Type 0 where
  pub count : numbers.count ≡ length undone
  pub each : (p : Pair) → number_under numbers p ≡ lemma_of undone p
