-- Lines of a proof.
use Rattle.std.specs.Prelude.{ℕ, List, [], ◌∷◌, codes, decimal}
use Rattle.std.specs.Fmt.{signed_decimal}
use Rattle.palm_base.specs.declared.terms.Pair.{Pair}
use Rattle.palm_book.specs.Book.{BookVar, name_of}
use Rattle.palm_read.specs.Lines.{ended}
use Rattle.palm_read.specs.Words.{spaced}

-- "step" NAME VALUE "assume"
abbrev pub assumed_line : List BookVar → Pair → List ℕ
assumed_line variables pair = ended (spaced (codes "step" ∷ name_of variables pair.var ∷ signed_decimal pair.value ∷ codes "assume" ∷ []))

-- "step" NAME VALUE "lemma" K
abbrev pub given_line : List BookVar → Pair → ℕ → List ℕ
given_line variables pair number = ended (spaced (codes "step" ∷ name_of variables pair.var ∷ signed_decimal pair.value ∷ codes "lemma" ∷ decimal number ∷ []))
