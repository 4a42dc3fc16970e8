use Rattle.std.proofs.Common.{◌≡◌, ◌<◌, ℕ, List, length, map, Some, IfSome, slice_get, sym, subst, arith}
use Rattle.std.proofs.lemmas.List.{length-map}
use Rattle.palm_book.specs.Book.{Contents, number_name}
use Rattle.palm_book.specs.declared.book.BookCon.{BookCon}
use Rattle.palm_book.proofs.cited.BookLemmas.{constraint_at, number_name_at}
use Rattle.palm_book.proofs.book.Book.constraint_name.Goals as goal

pub returns : goal.returns
returns c =
    let es = c.self.inside.constraints.entries in
    let place = c.in-Some.place in
    let number = c.args.number in
    let second : List ℕ × BookCon → BookCon = λ e. e.1 in
    let found = subst (λ (b : Contents). IfSome (slice_get b.constraints place) (λ x. x.number ≡ number) × (place < length b.constraints)) (sym c.self.view_is) c.in-Some.ensures.found in
    let within : place < length es = omega (arith, found.1, length-map es second) in
    let entry = c.value_at.result.now in
    let at : slice_get (map second es) place ≡ Some entry = constraint_at es place entry within c.value_at.ensures in
    let here = number_name_at (map second es) place number entry c.self.invariant.0.rising at found.0 in
    subst (λ (b : Contents). entry.name ≡ number_name b.constraints number) c.self.view_is here
