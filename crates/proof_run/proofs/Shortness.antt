-- How long the lines of a lemma's steps are.
use Rattle.std.proofs.Common.{ℕ, ◌≤◌, List, [], ◌∷◌, length, codes, refl, arith, decimal}
use Rattle.std.specs.Fmt.{signed_decimal}
use Rattle.palm_base.specs.declared.terms.Pair.{Pair}
use Rattle.palm_book.specs.Book.{BookVar, name_of}
use Rattle.palm_model.specs.Limits.{IsValue}
use Rattle.palm_read.specs.Name.{IsNameText}
use Rattle.palm_read.specs.Piece.{Integer, Keyword, Named, Natural}
use Rattle.palm_read.specs.Words.{spaced}
use Rattle.palm_read.proofs.cited.Layouts.{Words, lays_natural, words_keyword, words_name, words_none, words_number, words_short, words_weaker}
use Rattle.palm_read.proofs.cited.PrintedParts.{lays_value}
use Rattle.palm_cert.proofs.cited.Saying.{value_within}

module _ (variables : List BookVar) (pair : Pair) (named : IsNameText (name_of variables pair.var)) (value : IsValue pair.value) where
  -- a step by a decision
  pub assumed_words : Words 100 (codes "step" ∷ name_of variables pair.var ∷ signed_decimal pair.value ∷ codes "assume" ∷ [])
      (Keyword (codes "step") ∷ Named (name_of variables pair.var) ∷ Integer pair.value ∷ Keyword (codes "assume") ∷ [])
  assumed_words =
      words_weaker 100 (words_keyword (codes "step") refl (words_name (name_of variables pair.var) named (words_number (lays_value pair.value (value_within pair.value value)) (words_keyword (codes "assume") refl words_none)))) (omega arith)

  pub assumed_short : length (spaced (codes "step" ∷ name_of variables pair.var ∷ signed_decimal pair.value ∷ codes "assume" ∷ [])) ≤ 65536
  assumed_short = let short = words_short _ _ assumed_words in omega (arith, short)

  -- a step by the negation that a lemma gave
  pub of_lemma_words : (number : ℕ) → number ≤ 18446744073709551615 → Words 100 (codes "step" ∷ name_of variables pair.var ∷ signed_decimal pair.value ∷ codes "lemma" ∷ decimal number ∷ [])
      (Keyword (codes "step") ∷ Named (name_of variables pair.var) ∷ Integer pair.value ∷ Keyword (codes "lemma") ∷ Natural number ∷ [])
  of_lemma_words number most =
      let last = words_number (lays_natural 20 number (omega arith) (omega (arith, most)) (omega (arith, most))) words_none in
      words_weaker 100 (words_keyword (codes "step") refl (words_name (name_of variables pair.var) named (words_number (lays_value pair.value (value_within pair.value value)) (words_keyword (codes "lemma") refl last)))) (omega arith)

  pub of_lemma_short : (number : ℕ) → number ≤ 18446744073709551615
      → length (spaced (codes "step" ∷ name_of variables pair.var ∷ signed_decimal pair.value ∷ codes "lemma" ∷ decimal number ∷ [])) ≤ 65536
  of_lemma_short number most = let short = words_short _ _ (of_lemma_words number most) in omega (arith, short)
