-- What a line of a proof says: its phrases are those of this file.
use Rattle.std.specs.Prelude.{ℕ, ℤ, List, [], ◌∷◌, map, flat_map, All, codes, ⊤}
use Rattle.palm_model.specs.Limits.{IsValue}
use Rattle.palm_read.specs.Bounds.{IsFromOneTo}
use Rattle.palm_read.specs.Piece.{Piece, Keyword, Named, Mark, Integer, Natural}
use Rattle.palm_claim.specs.Phrases as of_texts
use Rattle.palm_claim.specs.Phrases.{Phrases, header_pieces}
use Rattle.palm_claim.specs.Statement.{IsStepNumber, reasons_pieces}
use Rattle.palm_claim.specs.declared.ground.Ground.{Ground}
use Rattle.palm_claim.specs.declared.ground.Ground.TheVariants.{By, Assumed, OfLemma}
use Rattle.proof_text.specs.declared.statement.NamedPair.{NamedPair}
use Rattle.palm_claim.specs.declared.statement.Statement.{Statement}
use Rattle.proof_text.specs.Reader.{phrase_at}
use Rattle.proof_text.specs.declared.statement.ProofPhrase.{ProofPhrase}
use Rattle.proof_text.specs.declared.statement.ProofPhrase.TheVariants.{Header, Lemma, Step, Wipe, Users, End}

-- NAME "=" INT
abbrev pub pair_pieces : NamedPair → List Piece
pair_pieces p = Named p.name ∷ Mark (codes "=") ∷ Integer p.value ∷ []

-- "lemma" { NAME "=" INT }
abbrev pub lemma_pieces : List NamedPair → List Piece
lemma_pieces pairs = Keyword (codes "lemma") ∷ flat_map pair_pieces pairs

-- "by" NAME and the reasons, or "assume", or "lemma" L
abbrev pub ground_pieces : Ground → List Piece
ground_pieces (By name reasons) = Keyword (codes "by") ∷ Named name ∷ reasons_pieces reasons
ground_pieces Assumed = Keyword (codes "assume") ∷ []
ground_pieces (OfLemma number) = Keyword (codes "lemma") ∷ Natural number ∷ []

-- "step" NAME INT, and the ground
abbrev pub step_pieces : List ℕ → ℤ → Ground → List Piece
step_pieces name value why = Keyword (codes "step") ∷ Named name ∷ Integer value ∷ ground_pieces why

-- "wipe" NAME
abbrev pub wipe_pieces : List ℕ → List Piece
wipe_pieces name = Keyword (codes "wipe") ∷ Named name ∷ []

-- "none" { NAME }
abbrev pub users_pieces : List (List ℕ) → List Piece
users_pieces names = Keyword (codes "none") ∷ map Named names

-- a number that may stand behind `lemma`: one of 64 bits
abbrev pub IsLemmaNumber : ℕ → Type 0
IsLemmaNumber k = IsFromOneTo 18446744073709551615 k

-- the numbers of the ground are in their ranges
abbrev pub IsGroundInRange : Ground → Type 0
IsGroundInRange (By name reasons) = All IsStepNumber reasons
IsGroundInRange Assumed = ⊤
IsGroundInRange (OfLemma number) = IsLemmaNumber number

-- the numbers of the phrase are in their ranges
abbrev pub AreInRange : ProofPhrase → Type 0
AreInRange (Lemma pairs) = All (λ p. IsValue p.value) pairs
AreInRange (Step name value why) = IsValue value × IsGroundInRange why
AreInRange _ = ⊤

-- what each phrase is written with, one piece after another
abbrev pub phrase_pieces : ProofPhrase → List Piece
phrase_pieces Header = header_pieces (codes "proof")
phrase_pieces (Lemma pairs) = lemma_pieces pairs
phrase_pieces (Step name value why) = step_pieces name value why
phrase_pieces (Wipe name) = wipe_pieces name
phrase_pieces (Users names) = users_pieces names
phrase_pieces End = Keyword (codes "end") ∷ []

-- proofs are texts with these phrases
abbrev pub phrases : Phrases ProofPhrase
phrases = record { phrase_at = phrase_at; pieces = phrase_pieces; AreInRange = AreInRange }

-- the line says this
abbrev pub Says : List ℕ → Statement ProofPhrase → Type 0
Says line statement = of_texts.Says phrases line statement
