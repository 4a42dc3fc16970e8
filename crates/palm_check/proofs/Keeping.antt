-- What is kept of a certificate stays so behind one step more.
use Rattle.std.proofs.Common.{◌≡◌, List, [], ◌∷◌, ◌++◌, All}
use Rattle.std.proofs.lemmas.List.Elements.{All-push}
use Rattle.palm_base.specs.declared.terms.Pair.{Pair}
use Rattle.palm_book.specs.Book.{Contents, initial_of}
use Rattle.palm_model.specs.Domains.{Has}

-- the pairs are declared
abbrev pub AreDeclared : Contents → List Pair → Type 0
AreDeclared book proved = All (λ p. Has (initial_of book) p.var p.value) proved

pub keeps_step : (before after : Contents) (proved more : List Pair) (pair : Pair) → after ≡ before → AreDeclared before proved → Has (initial_of before) pair.var pair.value → more ≡ proved ++ pair ∷ []
    → AreDeclared after more
keeps_step before after proved more pair same kept has grown = rw (same, grown) (All-push (λ (p : Pair). Has (initial_of before) p.var p.value) proved pair kept has)
