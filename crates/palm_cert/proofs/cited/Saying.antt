-- What the lines of a certificate say that are not those of a session: read by their tokens, they say what was written.
use Rattle.std.proofs.Common.{ℕ, ℤ, ◌+◌, ◌*◌, ◌≤◌, List, [], ◌∷◌, length, map, codes, All, refl, arith, decimal}
use Rattle.std.proofs.lemmas.List.Elements.{All-head, All-tail}
use Rattle.palm_base.specs.declared.terms.Pair.{Pair}
use Rattle.palm_book.specs.Book.{BookVar, name_of}
use Rattle.palm_claim.specs.Statement.{IsStepNumber, Says, conflict_claim_pieces, reasons_pieces, step_pieces, value_claim_pieces}
use Rattle.palm_claim.specs.declared.statement.CertificatePhrase.TheVariants.{ConflictClaim, Step, ValueClaim}
use Rattle.palm_claim.specs.declared.statement.Statement.TheVariants.{Phrase}
use Rattle.palm_claim.specs.declared.verdict.Claim.TheVariants.{Gone, Conflict}
use Rattle.palm_model.specs.Limits.{IsValue}
use Rattle.palm_read.specs.Bounds.{IsWithin, a_value}
use Rattle.palm_read.specs.Name.{IsNameText}
use Rattle.palm_read.specs.Piece.{Natural}
use Rattle.palm_read.specs.Words.{spaced}
use Rattle.palm_read.proofs.cited.Layouts.{Words, lays_natural, words_keyword, words_name, words_none, words_number, words_plain, words_short, words_spell, words_weaker}
use Rattle.palm_read.proofs.cited.PrintedParts.{lays_value}
use Rattle.palm_cert.specs.Certificate.{claim_words, from_words, step_words}

pub value_within : (v : ℤ) → IsValue v → IsWithin (a_value v)
value_within v is = (is.above, is.below)

pub words_numbers : (ks : List ℕ) → All IsStepNumber ks → Words (length ks * 11) (map decimal ks) (map Natural ks)
words_numbers [] small = words_none
words_numbers (k ∷ ks) small =
    let h = All-head IsStepNumber k ks small in
    words_weaker (length (k ∷ ks) * 11) (words_number (lays_natural 10 k (omega arith) (omega (arith, h.1)) (omega (arith, h.1))) (words_numbers ks (All-tail IsStepNumber k ks small))) (omega arith)

-- `from` and its numbers
pub words_from : (ks : List ℕ) → All IsStepNumber ks → Words (5 + length ks * 11) (from_words ks) (reasons_pieces ks)
words_from [] small = words_weaker 5 words_none (omega arith)
words_from (k ∷ ks) small = words_keyword (codes "from") refl (words_numbers (k ∷ ks) small)

module _ (variables : List BookVar) where
  -- the words of a step, with how long they are at most
  pub words_step : (pair : Pair) (by : List ℕ) (ks : List ℕ) → IsNameText (name_of variables pair.var) → IsNameText by → IsValue pair.value → All IsStepNumber ks
      → Words (100 + length ks * 11) (step_words variables pair by ks) (step_pieces (name_of variables pair.var) pair.value by ks)
  words_step pair by ks named cited value small =
      words_weaker (100 + length ks * 11) (words_keyword (codes "step") refl (words_name (name_of variables pair.var) named (words_number (lays_value pair.value (value_within pair.value value)) (words_keyword (codes "by") refl (words_name by cited (words_from ks small)))))) (omega arith)

  -- how long the line of a step is
  pub step_length : (pair : Pair) (by : List ℕ) (ks : List ℕ) → IsNameText (name_of variables pair.var) → IsNameText by → IsValue pair.value → All IsStepNumber ks
      → length (spaced (step_words variables pair by ks)) ≤ 100 + length ks * 11
  step_length pair by ks named cited value small =
      words_short (step_words variables pair by ks) (step_pieces (name_of variables pair.var) pair.value by ks) (words_step pair by ks named cited value small)

  pub step_says : (pair : Pair) (by : List ℕ) (ks : List ℕ) → IsNameText (name_of variables pair.var) → IsNameText by → IsValue pair.value → All IsStepNumber ks
      → length (spaced (step_words variables pair by ks)) ≤ 65536 → Says (spaced (step_words variables pair by ks)) (Phrase (Step (name_of variables pair.var) pair.value by ks))
  step_says pair by ks named cited value small short =
      let words = words_step pair by ks named cited value small in
      let pieces = step_pieces (name_of variables pair.var) pair.value by ks in
      (record { short = short; says = refl; plain = words_plain (step_words variables pair by ks) pieces words }, words_spell (step_words variables pair by ks) pieces words, (value, small))

  pub value_claim_says : (pair : Pair) → IsNameText (name_of variables pair.var) → IsValue pair.value → Says (spaced (claim_words variables (Gone pair))) (Phrase (ValueClaim (name_of variables pair.var) pair.value))
  value_claim_says pair named value =
      let line = claim_words variables (Gone pair) in
      let pieces = value_claim_pieces (name_of variables pair.var) pair.value in
      let words : Words 100 line pieces = words_weaker 100 (words_keyword (codes "claim") refl (words_name (name_of variables pair.var) named (words_number (lays_value pair.value (value_within pair.value value)) words_none))) (omega arith) in
      (record { short = omega (arith, words_short line pieces words); says = refl; plain = words_plain line pieces words }, words_spell line pieces words, value)

  pub conflict_claim_says : (x : ℕ) → IsNameText (name_of variables x) → Says (spaced (claim_words variables (Conflict x))) (Phrase (ConflictClaim (name_of variables x)))
  conflict_claim_says x named =
      let line = claim_words variables (Conflict x) in
      let pieces = conflict_claim_pieces (name_of variables x) in
      let words : Words 100 line pieces = words_weaker 100 (words_keyword (codes "claim") refl (words_keyword (codes "conflict") refl (words_name (name_of variables x) named words_none))) (omega arith) in
      (record { short = omega (arith, words_short line pieces words); says = refl; plain = words_plain line pieces words }, words_spell line pieces words, tt)
