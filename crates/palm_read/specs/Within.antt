-- A constraint on a domain on a line: `x in 1..3`.
use Rattle.std.specs.Prelude.{ℕ, List, [], ◌∷◌, codes}
use Rattle.palm_read.specs.Domain.{DomainForm, domain_pieces, domain_of, domain_text}
use Rattle.palm_read.specs.Piece.{Piece, Keyword, Named}
use Rattle.palm_read.specs.declared.line.DomainText.{DomainText}
use Rattle.palm_read.specs.declared.line.Shape.{Shape}
use Rattle.palm_read.specs.declared.line.Shape.TheVariants.{Within}

-- ---- grammar

-- NAME "in" domain
abbrev pub within_pieces : List ℕ → DomainForm → List Piece
within_pieces var domain = Named var ∷ Keyword (codes "in") ∷ domain_pieces domain

-- ---- what it says

abbrev pub within_shape : List ℕ → DomainForm → Shape
within_shape var domain = Within var (domain_of domain)

-- ---- text

abbrev pub within_words : List ℕ → DomainText → List (List ℕ)
within_words var domain = var ∷ codes "in" ∷ domain_text domain ∷ []
