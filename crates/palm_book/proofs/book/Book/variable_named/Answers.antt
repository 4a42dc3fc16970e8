use Rattle.std.proofs.Common.{◌≡◌, ◌≢◌, ℕ, ℤ, ◌<◌, List, length, All, subst}
use Rattle.std.proofs.lemmas.List.Elements.{All-map}
use Rattle.palm_book.specs.Book.{BookVar, Contents, name_of}
use Rattle.palm_book.proofs.cited.BookLemmas.{name_of_found}
use Rattle.palm_book.proofs.book.Book.variable_named.Goals as goal

pub returns-in_err-place-clause-none : goal.returns-in_err-place-clause-none
returns-in_err-place-clause-none c =
    let entry : List ℕ × List ℤ → BookVar = λ e. record { name = e.0; values = e.1 } in
    let named = All-map (λ e. e.name ≢ c.args.name.now) entry c.self.inside.variables.entries c.in_err-place.ensures.none in
    rw c.from_residual.ensures (subst (λ (b : Contents). All (λ e. e.name ≢ c.args.name.now) b.variables) c.self.view_is named)

pub returns-clause-found : goal.returns-clause-found
returns-clause-found c =
    let entry : List ℕ × List ℤ → BookVar = λ e. record { name = e.0; values = e.1 } in
    let place = c.in_ok-place.place in
    let found = c.in_ok-place.ensures.found in
    subst (λ (b : Contents). (place < length b.variables) × (name_of b.variables place ≡ c.args.name.now)) c.self.view_is (name_of_found entry c.self.inside.variables.entries place c.args.name.now found.0 found.1)
