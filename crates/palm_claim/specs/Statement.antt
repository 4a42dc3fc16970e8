-- What a line of a certificate says: its phrases are those of this file.
use Rattle.std.specs.Prelude.{ℕ, ℤ, List, [], ◌∷◌, map, All, codes, ⊤}
use Rattle.palm_model.specs.Limits.{IsValue}
use Rattle.palm_read.specs.Bounds.{IsFromOneTo}
use Rattle.palm_read.specs.Piece.{Piece, Keyword, Named, Integer, Natural}
use Rattle.palm_claim.specs.Phrases as of_texts
use Rattle.palm_claim.specs.Phrases.{Phrases, header_pieces}
use Rattle.palm_claim.specs.Reader.{phrase_at}
use Rattle.palm_claim.specs.declared.statement.CertificatePhrase.{CertificatePhrase}
use Rattle.palm_claim.specs.declared.statement.CertificatePhrase.TheVariants.{Header, Step, ValueClaim, ConflictClaim, End}
use Rattle.palm_claim.specs.declared.statement.Statement.{Statement}

-- a number that may stand behind `from`: one of 32 bits
abbrev pub IsStepNumber : ℕ → Type 0
IsStepNumber k = IsFromOneTo 4294967295 k

-- "from" K { K }, or nothing
abbrev pub reasons_pieces : List ℕ → List Piece
reasons_pieces [] = []
reasons_pieces (k ∷ ks) = Keyword (codes "from") ∷ map Natural (k ∷ ks)

-- "step" NAME INT "by" NAME, and the reasons
abbrev pub step_pieces : List ℕ → ℤ → List ℕ → List ℕ → List Piece
step_pieces name value by reasons = Keyword (codes "step") ∷ Named name ∷ Integer value ∷ Keyword (codes "by") ∷ Named by ∷ reasons_pieces reasons

-- "claim" NAME INT
abbrev pub value_claim_pieces : List ℕ → ℤ → List Piece
value_claim_pieces name value = Keyword (codes "claim") ∷ Named name ∷ Integer value ∷ []

-- "claim" "conflict" NAME
abbrev pub conflict_claim_pieces : List ℕ → List Piece
conflict_claim_pieces name = Keyword (codes "claim") ∷ Keyword (codes "conflict") ∷ Named name ∷ []

-- the numbers of the phrase are in their ranges
abbrev pub AreInRange : CertificatePhrase → Type 0
AreInRange (Step name value by reasons) = IsValue value × All IsStepNumber reasons
AreInRange (ValueClaim name value) = IsValue value
AreInRange _ = ⊤

-- the pieces that the phrase is written with
abbrev pub phrase_pieces : CertificatePhrase → List Piece
phrase_pieces Header = header_pieces (codes "cert")
phrase_pieces (Step name value by reasons) = step_pieces name value by reasons
phrase_pieces (ValueClaim name value) = value_claim_pieces name value
phrase_pieces (ConflictClaim name) = conflict_claim_pieces name
phrase_pieces End = Keyword (codes "end") ∷ []

-- the phrases of certificates
abbrev pub phrases : Phrases CertificatePhrase
phrases = record { phrase_at = phrase_at; pieces = phrase_pieces; AreInRange = AreInRange }

-- what a line says
abbrev pub Says : List ℕ → Statement CertificatePhrase → Type 0
Says line statement = of_texts.Says phrases line statement
